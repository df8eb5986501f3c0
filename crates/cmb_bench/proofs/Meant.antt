-- What is built is what the statements mean.
use Rattle.std.proofs.Common.{◌≡◌, ℕ, List, [], ◌∷◌, refl, sym, ap, subst, Ok, nat_eq}
use Rattle.std.specs.Prelude.{Option, Some, None, position}
use Rattle.std.specs.List.{flat_map}
use Rattle.std.specs.Str.{bytes_eq}
use Rattle.indexmap.specs.IndexSet.{insert_key, insert_all}
use Rattle.cmb_bench.specs.Statement.{Statement, input, output, drive, Mention}
use Rattle.cmb_netlist.specs.declared.netlist.Driver.{Driver}
use Rattle.cmb_bench.specs.Inner.Building.{numbered, number_in, numbers_in, built}
use Rattle.cmb_bench.specs.Meaning.{Numbers, Drivers, named_outputs}
use Rattle.cmb_bench.proofs.Inversion.{bind_ok, ok_is}

numbered_is : (o : Option ℕ) (m : Mention) (n : ℕ) → numbered o m ≡ Ok n → o ≡ Some n
numbered_is None m n e = absurd (cc)
numbered_is (Some k) m n e = ap Some (cc)

number_is : (names : List (List ℕ)) (m : Mention) (n : ℕ) → number_in names m ≡ Ok n → position (bytes_eq m.name) names ≡ Some n
unfolding number_in
number_is names m n e = numbered_is _ m n e

number_again : (names : List (List ℕ)) (m : Mention) (n : ℕ) → position (bytes_eq m.name) names ≡ Some n → number_in names m ≡ Ok n
unfolding number_in
number_again names m n e = ap (λ o. numbered o m) e

numbers_are : (names : List (List ℕ)) (ms : List Mention) (ns : List ℕ) → numbers_in names ms ≡ Ok ns → Numbers names ms ns
unfolding numbers_in
numbers_are names [] [] e = tt
numbers_are names [] (n ∷ ns) e = absurd (cc)
numbers_are names (m ∷ ms) ns e =
    let k = bind_ok (number_in names m) _ ns e in
    let more = bind_ok (numbers_in names ms) _ ns k.2 in
    subst (Numbers names (m ∷ ms)) (ok_is more.2) (number_is names m k.0 k.1, numbers_are names ms more.0 more.1)

numbers_again : (names : List (List ℕ)) (ms : List Mention) (ns : List ℕ) → Numbers names ms ns → numbers_in names ms ≡ Ok ns
unfolding numbers_in
numbers_again names [] [] h = refl
numbers_again names [] (n ∷ ns) h = absurd h
numbers_again names (m ∷ ms) [] h = absurd h
numbers_again names (m ∷ ms) (n ∷ ns) h = rw (number_again names m n h.0, numbers_again names ms ns h.1) refl

pub record Outcome (names : List (List ℕ)) (ss : List Statement) (before : List ℕ) (drivers : List Driver) (outputs : List ℕ) : Type 0 where
  pub drives : Drivers names ss drivers
  pub numbers : List ℕ
  pub named : Numbers names (flat_map named_outputs ss) numbers
  pub once : outputs ≡ insert_all nat_eq before numbers

pub built_means : (names : List (List ℕ)) (ss : List Statement) (before : List ℕ) (r : List Driver × List ℕ) → built names before ss ≡ Ok r → Outcome names ss before r.0 r.1
unfolding built
built_means names [] before r e = subst (λ (q : List Driver × List ℕ). Outcome names [] before q.0 q.1) (ok_is e) (record { drives = refl; numbers = []; named = tt; once = refl })
built_means names (input n ∷ ss) before r e =
    let more = bind_ok (built names before ss) _ r e in
    let h = built_means names ss before more.0 more.1 in
    subst (λ (q : List Driver × List ℕ). Outcome names (input n ∷ ss) before q.0 q.1) (ok_is more.2) (record { drives = (more.0.0, refl, h.drives); numbers = h.numbers; named = h.named; once = h.once })
built_means names (output m ∷ ss) before r e =
    let k = bind_ok (number_in names m) _ r e in
    let h = built_means names ss (insert_key nat_eq before k.0) r k.2 in
    record { drives = h.drives; numbers = k.0 ∷ h.numbers; named = (number_is names m k.0 k.1, h.named); once = h.once }
built_means names (drive n f ms ∷ ss) before r e =
    let ns = bind_ok (numbers_in names ms) _ r e in
    let more = bind_ok (built names before ss) _ r ns.2 in
    let h = built_means names ss before more.0 more.1 in
    subst (λ (q : List Driver × List ℕ). Outcome names (drive n f ms ∷ ss) before q.0 q.1) (ok_is more.2) (record { drives = (ns.0, more.0.0, numbers_are names ms ns.0 ns.1, refl, h.drives); numbers = h.numbers; named = h.named; once = h.once })

pub means_built : (names : List (List ℕ)) (ss : List Statement) (before : List ℕ) (drivers : List Driver) (ns : List ℕ) → Drivers names ss drivers → Numbers names (flat_map named_outputs ss) ns → built names before ss ≡ Ok (drivers, insert_all nat_eq before ns)
unfolding built
means_built names [] before drivers [] drives named = ap (λ l. Ok (l, before)) (sym drives)
means_built names [] before drivers (n ∷ ns) drives named = absurd named
means_built names (input n ∷ ss) before drivers ns drives named = rw (means_built names ss before drives.0 ns drives.2 named, drives.1) refl
means_built names (output m ∷ ss) before drivers [] drives named = absurd named
means_built names (output m ∷ ss) before drivers (n ∷ ns) drives named = rw (number_again names m n named.0) (means_built names ss (insert_key nat_eq before n) drivers ns drives named.1)
means_built names (drive n f ms ∷ ss) before drivers ns drives named = rw (numbers_again names ms drives.0 drives.2, means_built names ss before drives.1 ns drives.4 named, drives.3) refl
