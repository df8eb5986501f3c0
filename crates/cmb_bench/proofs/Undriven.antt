-- The fault that building answers is that of the first name that is used and not driven.
use Rattle.std.proofs.Common.{◌≡◌, ℕ, ◌<◌, List, [], ◌∷◌, ◌++◌, Bool, true, false, length, refl, sym, ap, ◌∙◌, Result, Ok, Err, nat_eq, nat_lt, append_assoc, inl, inr, ⊎_elim, arith, cond}
use Rattle.std.specs.Prelude.{Some, None, ◌⊎◌, not, ◌||◌, ◌+◌, ◌≤◌, suc}
use Rattle.std.proofs.str.Laws.{order}
use Rattle.std.specs.List.{flat_map, AllByRecursion, position_or_len}
use Rattle.std.specs.Str.{bytes_eq}
use Rattle.indexmap.specs.IndexSet.{insert_key}
use Rattle.cmb_bench.specs.declared.fault.BenchFault.{BenchFault}
use Rattle.cmb_bench.specs.declared.fault.FaultKind.TheVariants as faults
use Rattle.cmb_bench.specs.Statement.{Statement, input, output, drive, Mention, is_member, used_by}
use Rattle.cmb_bench.specs.Inner.Reading.{◌>>=◌}
use Rattle.cmb_bench.specs.Inner.Building.{numbered, number_in, numbers_in, built}
use Rattle.cmb_bench.proofs.Inversion.{bind_ok}

-- a step that failed, or the one after it
pub bind_err : {A B : Type 0} (r : Result A BenchFault) (f : A → Result B BenchFault) (d : BenchFault) → (r >>= f) ≡ Err d → (r ≡ Err d) ⊎ ((x : A) × (r ≡ Ok x) × (f x ≡ Err d))
bind_err (Ok x) f d e = inr (x, refl, e)
bind_err (Err g) f d e = inl (ap Err (cc))

-- the error of a step after which nothing fails
pub last_err : {A B : Type 0} (r : Result A BenchFault) (g : A → B) (f : BenchFault) → (do
  x ← r
  Ok (g x)) ≡ Err f → r ≡ Err f
last_err (Ok x) g f e = absurd (cc)
last_err (Err d) g f e = ap Err (cc)

pub err_is : {A : Type 0} {x y : BenchFault} → let r : Result A BenchFault = Err x in r ≡ Err y → x ≡ y
err_is e = cc

lt_true : (a b : ℕ) → a < b → nat_lt a b ≡ true
lt_true a b h = grind arith

lt_false : (a b : ℕ) → b ≤ a → nat_lt a b ≡ false
lt_false a b h = grind arith

pub record Missing (names : List (List ℕ)) (ms : List Mention) (f : BenchFault) : Type 0 where
  pub before : List Mention
  pub mention : Mention
  pub after : List Mention
  pub is : ms ≡ before ++ mention ∷ after
  pub earlier : AllByRecursion (λ m. is_member m.name names ≡ true) before
  pub missing : is_member mention.name names ≡ false
  pub fault : f ≡ record { line = mention.line; kind = faults.Undriven }

-- a name has a place among the names exactly where it is one of them
lt_zero : (b : ℕ) → nat_lt 0 (suc b) ≡ true
lt_zero b = grind arith

lt_suc : (a b : ℕ) → nat_lt (1 + a) (suc b) ≡ nat_lt a b
lt_suc a b = ⊎_elim (λ lt. lt_true (1 + a) (suc b) (omega arith) ∙ sym (lt_true a b lt)) (λ ge. lt_false (1 + a) (suc b) (omega arith) ∙ sym (lt_false a b ge)) (order a b)

place_member : (n : List ℕ) (names : List (List ℕ)) → nat_lt (position_or_len (bytes_eq n) names) (length names) ≡ is_member n names
place_member n [] = refl
place_member n (x ∷ names) = elim (bytes_eq n x) as (λ v. nat_lt (cond (not v) (1 + position_or_len (bytes_eq n) names) 0) (length (x ∷ names)) ≡ (v || is_member n names)) [ true ↦ lt_zero (length names) | false ↦ lt_suc _ _ ∙ place_member n names ]

was_found : (b : Bool) (p : ℕ) (m : Mention) (k : ℕ) → numbered (cond b (Some p) None) m ≡ Ok k → b ≡ true
was_found true p m k e = refl
was_found false p m k e = absurd (cc)

was_missing : (b : Bool) (p : ℕ) (m : Mention) (f : BenchFault) → numbered (cond b (Some p) None) m ≡ Err f → (b ≡ false) × (f ≡ record { line = m.line; kind = faults.Undriven })
was_missing true p m f e = absurd (cc)
was_missing false p m f e = (refl, sym (err_is e))

pub found : (m : Mention) (names : List (List ℕ)) (k : ℕ) → number_in names m ≡ Ok k → is_member m.name names ≡ true
unfolding number_in
found m names k e = sym (place_member m.name names) ∙ was_found _ _ m k e

not_found : (m : Mention) (names : List (List ℕ)) (f : BenchFault) → number_in names m ≡ Err f → (is_member m.name names ≡ false) × (f ≡ record { line = m.line; kind = faults.Undriven })
unfolding number_in
not_found m names f e = let h = was_missing (nat_lt (position_or_len (bytes_eq m.name) names) (length names)) (position_or_len (bytes_eq m.name) names) m f e in (sym (place_member m.name names) ∙ h.0, h.1)

here : (names : List (List ℕ)) (m : Mention) (ms : List Mention) (f : BenchFault) → (is_member m.name names ≡ false) × (f ≡ record { line = m.line; kind = faults.Undriven }) → Missing names (m ∷ ms) f
here names m ms f h = record { before = []; mention = m; after = ms; is = refl; earlier = tt; missing = h.0; fault = h.1 }

later : (names : List (List ℕ)) (m : Mention) (ms : List Mention) (f : BenchFault) → is_member m.name names ≡ true → Missing names ms f → Missing names (m ∷ ms) f
later names m ms f h x = record { before = m ∷ x.before; mention = x.mention; after = x.after; is = ap (λ l. m ∷ l) x.is; earlier = (h, x.earlier); missing = x.missing; fault = x.fault }

longer : (names : List (List ℕ)) (ms more : List Mention) (f : BenchFault) → Missing names ms f → Missing names (ms ++ more) f
longer names ms more f x = record { before = x.before; mention = x.mention; after = x.after ++ more; is = ap (λ l. l ++ more) x.is ∙ append_assoc x.before (x.mention ∷ x.after) more; earlier = x.earlier; missing = x.missing; fault = x.fault }

numbers_missing : (names : List (List ℕ)) (ms : List Mention) (f : BenchFault) → numbers_in names ms ≡ Err f → Missing names ms f
unfolding numbers_in
numbers_missing names [] f e = absurd (cc)
numbers_missing names (m ∷ ms) f e =
    ⊎_elim
    (λ h. here names m ms f (not_found m names f h))
    (λ k. later names m ms f (found m names k.0 k.1) (numbers_missing names ms f (last_err (numbers_in names ms) _ f k.2)))
    (bind_err (number_in names m) _ f e)

after_all : (names : List (List ℕ)) (ms : List Mention) (ns : List ℕ) (more : List Mention) (f : BenchFault) → numbers_in names ms ≡ Ok ns → Missing names more f → Missing names (ms ++ more) f
unfolding numbers_in
after_all names [] ns more f e x = x
after_all names (m ∷ ms) ns more f e x =
    let k = bind_ok (number_in names m) _ ns e in
    let rest = bind_ok (numbers_in names ms) _ ns k.2 in
    later names m (ms ++ more) f (found m names k.0 k.1) (after_all names ms rest.0 more f rest.1 x)

pub built_missing : (names : List (List ℕ)) (ss : List Statement) (before : List ℕ) (f : BenchFault) → built names before ss ≡ Err f → Missing names (flat_map used_by ss) f
unfolding built
built_missing names [] before f e = absurd (cc)
built_missing names (input n ∷ ss) before f e = built_missing names ss before f (last_err (built names before ss) _ f e)
built_missing names (output m ∷ ss) before f e =
    ⊎_elim
    (λ h. here names m (flat_map used_by ss) f (not_found m names f h))
    (λ k. later names m (flat_map used_by ss) f (found m names k.0 k.1) (built_missing names ss (insert_key nat_eq before k.0) f k.2))
    (bind_err (number_in names m) _ f e)
built_missing names (drive n g ms ∷ ss) before f e =
    ⊎_elim
    (λ h. longer names ms (flat_map used_by ss) f (numbers_missing names ms f h))
    (λ ns. after_all names ms ns.0 (flat_map used_by ss) f ns.1 (built_missing names ss before f (last_err (built names before ss) _ f ns.2)))
    (bind_err (numbers_in names ms) _ f e)
