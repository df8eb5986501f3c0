use Rattle.std.proofs.Common.{All, Bool, true, false, List, [], ◌∷◌, subst, sym}
use Rattle.std.specs.List.{Contains, items_where_true}
use Rattle.std.proofs.lemmas.List.Elements.{All-cons, All-contains_itself, All-head, All-nil, All-tail}
use Rattle.cmb_run_free.specs.declared.passing.Passing.{Passing}
use Rattle.cmb_run_free.proofs.passing.leave_out_done.Goals as goal

kept_among : (all : List Passing) (bs : List Bool) (xs : List Passing) → All (Contains all) xs → All (Contains all) (items_where_true bs xs)
kept_among all [] xs has = All-nil (Contains all)
kept_among all (b ∷ bs) [] has = All-nil (Contains all)
kept_among all (true ∷ bs) (x ∷ xs) has = All-cons (Contains all) x (items_where_true bs xs) (All-head (Contains all) x xs has) (kept_among all bs xs (All-tail (Contains all) x xs has))
kept_among all (false ∷ bs) (x ∷ xs) has = kept_among all bs xs (All-tail (Contains all) x xs has)

pub returns : goal.returns
returns c =
    let old = c.args.nets.now.items in
    subst (All (Contains old)) (sym c.retain.ensures.filtered.4) (kept_among old c.retain.ensures.filtered.0 old (All-contains_itself old))
