-- What is planned for what is asked for, and what comes of writing a text.
use Rattle.std.specs.Prelude.{◌≡◌, ℕ, ◌<◌, ◌⊎◌, Bool, List, length, true, false, None, Result, IfErr, IfOk, OnOk, ⊤}
use Rattle.cmb_design_model.specs.Checks.{first_fault}
use Rattle.cmb_design_model.specs.Design.{Design}
use Rattle.cmb_design_model.specs.Exact.{nets_of}
use Rattle.cmb_dump.specs.Shown.{AreAmong}
use Rattle.cmb_run_scopes.specs.Scopes.{in_form, scoped_header}
use Rattle.cmb_run_scopes.specs.declared.header.Headers.{Headers}
use Rattle.cmb_run_text.specs.Chosen.{names_of, vcd_of}
use Rattle.cmb_run_text.specs.Vcd.{header, vcd}
use Rattle.cmb_graph_partition.specs.Partitions.{IsPartition}
use Rattle.cmb_cli_line.specs.declared.line.Request.{Request}
use Rattle.cmb_cli_line.specs.declared.mode.Mode.TheVariants.{Plain}
use Rattle.cmb_inputs.specs.Outputs.{HasTaken, IsUntouched, Output}
use Rattle.cmb_sim.specs.Simulation.{CanBeStopped, CanRun, IsBroken, IsStreamed, IsTextOf, mode_checks}
use Rattle.cmb_sim.specs.declared.plan.Plan.{Plan}
use Rattle.cmb_sim.specs.declared.plan.Way.{Way}
use Rattle.cmb_sim.specs.declared.plan.Way.TheVariants.{Table, Picked, Chosen, Engine, Shares, Rounds, Free}
use Rattle.cmb_faults.specs.declared.fault.Fault.{Fault}
use Rattle.cmb_faults.specs.declared.fault.Fault.TheVariants as fault

-- the text that a way makes of a design
abbrev pub way_text : Way → Design → List ℕ
way_text (Picked nets) design = vcd_of design nets.items
way_text (Chosen nets threads) design = vcd_of design nets.items
way_text _ design = vcd design

-- the names of the nets that this text has
abbrev pub way_names : Way → Design → List (List ℕ)
way_names (Picked nets) design = names_of design.netlist nets.items
way_names (Chosen nets threads) design = names_of design.netlist nets.items
way_names _ design = design.netlist.names

-- the same text with scopes, where these are asked for
abbrev pub form_text : Bool → Way → Design → List ℕ
form_text scopes way design = in_form scopes (way_names way design) (way_text way design)

-- the lines with scopes for nets with these names, and how long those are in whose place they stand
pub record AreHeaders (names : List (List ℕ)) (headers : Headers) : Type 0 where
  pub lines : headers.scoped.items ≡ scoped_header names
  pub plain : headers.plain ≡ length (header names)

-- what a way needs
abbrev pub CanMake : Way → Design → Type 0
CanMake Table design = first_fault (mode_checks Plain design) ≡ None
CanMake (Picked nets) design = (first_fault (mode_checks Plain design) ≡ None) × AreAmong (nets_of design) nets.items
CanMake (Chosen nets threads) design = AreAmong (nets_of design) nets.items
CanMake (Engine threads) design = ⊤
CanMake (Shares partition threads) design = IsPartition design.netlist partition
CanMake (Rounds workers clusters) design = ⊤
CanMake (Free workers clusters) design = ⊤

-- it fills the table
abbrev pub IsByTable : Way → Type 0
IsByTable Table = ⊤
IsByTable (Picked nets) = ⊤
IsByTable _ = ⊥

-- it writes its text while the run goes on
abbrev pub Streams : Way → Type 0
Streams Table = ⊥
Streams (Picked nets) = ⊥
Streams (Chosen nets threads) = ⊤
Streams (Engine threads) = ⊤
Streams (Shares partition threads) = ⊤
Streams (Rounds workers clusters) = ⊥
Streams (Free workers clusters) = ⊤

-- its run can be stopped
abbrev pub CanStop : Way → Type 0
CanStop (Free workers clusters) = ⊤
CanStop _ = ⊥

-- an engine's run breaks off in the middle of its text only where memory runs out
abbrev pub EngineBreaks : Fault → Type 0
EngineBreaks fault.Memory = ⊤
EngineBreaks _ = ⊥

-- by which faults a way may break off in the middle of its text
abbrev pub MayBreak : Way → Design → Fault → Type 0
MayBreak way design (fault.Incomplete net upto) = CanStop way × (net < nets_of design) × (upto < design.horizon)
MayBreak way design fault.Memory = Streams way
MayBreak way design _ = ⊥

-- a text that is held breaks off nowhere
abbrev pub PlanMayBreak : Plan → Design → Fault → Type 0
PlanMayBreak plan design f = (plan.held ≡ false) × MayBreak plan.way design f

-- nor does a text with scopes
abbrev pub FormMayBreak : Bool → Plan → Design → Fault → Type 0
FormMayBreak scopes plan design f = (scopes ≡ false) × PlanMayBreak plan design f

-- a way to a text of a design with these names, of which the run can be stopped only where that may be
pub record IsWayTo (design : Design) (names : List (List ℕ)) (text : List ℕ) (MayStop : Type 0) (way : Way) : Type 0 where
  pub makes : CanMake way design
  pub same : way_text way design ≡ text
  pub named : way_names way design ≡ names
  pub stops : CanStop way → MayStop

-- What is planned is what is asked for: the text, in mode plain by the table, and, without scopes, whether it is held. The run can be stopped
-- only where what is asked for can.
pub record IsPlan (request : Request) (design : Design) (names : List ℕ) (plan : Plan) : Type 0 where
  pub runs : CanRun request.mode design
  pub makes : CanMake plan.way design
  pub text : IsTextOf request.choice request.scopes design names (form_text request.scopes plan.way design)
  pub table : request.mode ≡ Plain → IsByTable plan.way
  pub streams : plan.held ≡ false → Streams plan.way → IsStreamed request.mode false
  pub holds : plan.held ≡ true → IsStreamed request.mode false → ⊥
  pub stops : CanStop plan.way → CanBeStopped request.mode request.threads request.choice false

-- what comes of writing a text: it was written, and its length is told; or memory ran out before; or it was begun
pub record IsPut (text : List ℕ) (Breaks : Fault → Type 0) (o : Output) (answer : Result ℕ Fault) : Type 0 where
  pub told : IfOk answer (λ n. n ≡ length text)
  pub taken : OnOk answer (HasTaken text o)
  pub fault : IfErr answer (λ f. ((f ≡ fault.Memory) × IsUntouched o) ⊎ IsBroken Breaks text o f)
