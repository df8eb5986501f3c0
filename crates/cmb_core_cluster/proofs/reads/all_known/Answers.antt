use Rattle.std.proofs.Common.{◌≡◌, ◌<◌, Bool, [], length, get_or, arith, sym, ◌∙◌, not, ◌&&◌, eqb}
use Rattle.std.proofs.lemmas.List.{get_or_read}
use Rattle.cmb_wave.specs.Wave.{new_wave}
use Rattle.cmb_core_cluster.specs.declared.process.ProcessRule.TheVariants.{Given}
use Rattle.cmb_core_cluster.specs.Rows.{Process, is_given}
use Rattle.cmb_core_cluster.proofs.ReadFacts.{known_more, known_less}
use Rattle.cmb_core_cluster.proofs.reads.all_known.Goals as goal
use Rattle.cmb_core_cluster.proofs.reads.all_known.Goals.{After-is_behind}

abbrev none : Process
none = record { rule = Given; operands = []; stimulus = [] }

-- what the test found of the process and the wave in a place
found : (c : After-is_behind) (b : Bool) → c.is_behind.result ≡ b → (not (is_given (get_or c.args.nodes.now c.loop-slot.slot none).rule) && not (eqb (get_or c.args.waves.now c.loop-slot.slot (new_wave 0)).clock c.args.upto)) ≡ b
found c b e =
    let here : c.loop-slot.slot < length c.args.nodes.now = omega arith in
    let there : c.loop-slot.slot < length c.args.waves.now = omega arith in
    rw (get_or_read _ _ _ here c.index-nodes-slot.is none, get_or_read _ _ _ there c.index-waves-slot.is (new_wave 0)) at (sym c.is_behind.ensures ∙ e)

pub loop-slot-preserved : goal.loop-slot-preserved
loop-slot-preserved c =
    known_more c.args.upto c.args.nodes.now c.args.waves.now c.loop-slot.slot none (new_wave 0) (omega arith) (omega arith) (found (goal.at.loop-slot-preserved c).After-is_behind _ c.if-is_behind.false) ∙ c.loop-slot.invariant

pub returns-then-is_behind : goal.returns-then-is_behind
returns-then-is_behind c =
    sym (sym c.loop-slot.invariant ∙ known_less c.args.upto c.args.nodes.now c.args.waves.now c.loop-slot.slot none (new_wave 0) (omega arith) (omega arith) (found (goal.at.returns-then-is_behind c).After-is_behind _ c.if-is_behind.true))
