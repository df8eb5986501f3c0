use Rattle.std.proofs.Common.{◌≡◌, ℕ, List, [], ◌∷◌, ◌++◌, Bool, true, false, ap, ◌∙◌}
use Rattle.cmb_bench.specs.Statement.{is_member}
use Rattle.std.specs.Prelude.{not, if◌then◌else◌}
use Rattle.cmb_bench.proofs.parser.insert_name.Goals as goal

-- what was there stays, and a new name goes last
added : (names new : List (List ℕ)) (name : List ℕ) (there is_new : Bool) → is_new ≡ not there → new ≡ (if there then names else names ++ name ∷ []) →
    new ≡ (if is_new then names ++ name ∷ [] else names)
added names new name true is_new is new_is = rw is new_is
added names new name false is_new is new_is = rw is new_is

pub returns-clause-new : goal.returns-clause-new
returns-clause-new c = c.in_ok-insert.ensures.added ∙ ap (λ n. not (is_member n c.args.names.now.keys)) c.in_ok-own.ensures

pub returns-clause-names : goal.returns-clause-names
returns-clause-names c =
    let names = c.args.names.now.keys in
    added names _ c.args.name.now (is_member c.args.name.now names) _ (returns-clause-new c)
    (c.in_ok-insert.ensures.keys ∙ ap (λ n. if is_member n names then names else names ++ n ∷ []) c.in_ok-own.ensures)
