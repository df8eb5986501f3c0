-- Where each net of a design is chosen, what holds of the chosen nets' text holds of the design's.
use Rattle.std.proofs.Common.{◌≡◌, ℕ, ◌<◌, Bool, true, List, [], ◌∷◌, get_or, Ok, refl, subst, ◌∙◌}
use Rattle.std.specs.Prelude.{All, Contains}
use Rattle.std.specs.List.{filter, range_with_len}
use Rattle.std.proofs.lemmas.List.Elements.{All-contains, All-head, All-tail, filter_passes}
use Rattle.cmb_design_model.specs.Design.{Design}
use Rattle.cmb_design_model.specs.Exact.{nets_of}
use Rattle.cmb_cone.proofs.FoundFacts.{range_below}
use Rattle.cmb_cone.specs.Chosen.{each_once}
use Rattle.cmb_cone.specs.Restriction.{is_among}
use Rattle.cmb_run_scopes.proofs.FormFacts.{form-all}
use Rattle.cmb_run_scopes.specs.Scopes.{in_form}
use Rattle.cmb_run_text.specs.Vcd.{vcd}
use Rattle.cmb_cli_line.specs.declared.choice.Choice.TheVariants.{All as All_nets, Only}
use Rattle.cmb_cli_line.specs.declared.choice.Pick.{Pick}
use Rattle.cmb_cli_line.specs.declared.choice.Pick.TheVariants.{Listed, Outputs}
use Rattle.cmb_cli_line.specs.declared.line.Request.{Request}
use Rattle.cmb_sim.specs.Simulation.{IsRun}
use Rattle.cmb_inputs.specs.Chosen.{AreChosen}
use Rattle.cmb_inputs.specs.Inputs.{Texts}
use Rattle.cmb_inputs.specs.Outputs.{Output}
use Rattle.cmb_faults.specs.declared.answer.Report.{Report}

filter_all : (p : ℕ → Bool) (xs : List ℕ) → All (λ x. p x ≡ true) xs → filter p xs ≡ xs
filter_all p [] all = refl
filter_all p (x ∷ xs) all =
    let here : p x ≡ true = All-head (λ y. p y ≡ true) x xs all in
    let rest : filter p xs ≡ xs = filter_all p xs (All-tail (λ y. p y ≡ true) x xs all) in
    rw (here, rest) refl

-- nets of a list, each once, that are all there are
once_all : (count : ℕ) (list : List ℕ) → ((net : ℕ) → net < count → Contains (each_once count list) net) → each_once count list ≡ range_with_len 0 count
once_all count list there =
    filter_all (is_among list) (range_with_len 0 count)
    (λ k d within. All-contains (λ net. is_among list net ≡ true) (each_once count list) (get_or (range_with_len 0 count) k d)
    (filter_passes (is_among list) (range_with_len 0 count)) (there (get_or (range_with_len 0 count) k d) (range_below count k d within)))

all_once : (design : Design) (list nets : List ℕ) → nets ≡ each_once (nets_of design) list → ((net : ℕ) → net < nets_of design → Contains nets net) → nets ≡ range_with_len 0 (nets_of design)
all_once design list nets is there =
    let P : List ℕ → Type 0 = λ xs. (net : ℕ) → net < nets_of design → Contains xs net in
    is ∙ once_all (nets_of design) list (subst P is there)

chosen_all : (pick : Pick) (design : Design) (names nets : List ℕ) → AreChosen pick design names nets → ((net : ℕ) → net < nets_of design → Contains nets net) → nets ≡ range_with_len 0 (nets_of design)
chosen_all Listed design names nets chosen there = all_once design chosen.0 nets chosen.2 there
chosen_all Outputs design names nets chosen there = all_once design design.netlist.outputs nets chosen there

pub IsRun-chosen : (request : Request) (pick : Pick) (texts : Texts) (o : Output) (report : Report)
    → ((design : Design) (nets : List ℕ) → AreChosen pick design texts.names nets → (net : ℕ) → net < nets_of design → Contains nets net)
    → IsRun (record request { choice = Only pick }) texts o (Ok report) → IsRun (record request { choice = All_nets }) texts o (Ok report)
IsRun-chosen request pick texts o report there h =
    let made = h.ok.1 in
    let design : Design = made.0 in
    let nets : List ℕ = made.2.0 in
    let all = chosen_all pick design texts.names nets made.2.1 (there design nets made.2.1) in
    let whole : h.ok.0 ≡ in_form request.scopes design.netlist.names (vcd design) = made.2.2 ∙ form-all request.scopes design nets all in
    record { ok = (h.ok.0, (design, made.1, whole, made.3, made.4), h.ok.2); fault = tt }
