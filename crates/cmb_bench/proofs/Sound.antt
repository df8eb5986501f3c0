-- What is built is a netlist: all numbers are those of nets, and each gate has as many operands as its kind takes.
use Rattle.std.proofs.Common.{◌≡◌, ℕ, zero, suc, ◌<◌, ◌≤◌, List, [], ◌∷◌, ◌++◌, Bool, true, false, length, refl, sym, ap, ◌∙◌, subst, Ok, nat_eq, arith, append_assoc, append-nil}
use Rattle.std.specs.Prelude.{if◌then◌else◌}
use Rattle.std.specs.List.{All, AllByRecursion, IsDistinct, list_any}
use Rattle.std.specs.Str.{bytes_eq}
use Rattle.std.specs.Cmp.{nat_eq_equiv}
use Rattle.std.specs.Cmp.Lexicographic.{nat_list_eq_equiv}
use Rattle.std.proofs.lemmas.Map.Keys.{IsDistinct-push}
use Rattle.std.proofs.lemmas.List.Quantifiers.{position-Some}
use Rattle.indexmap.specs.IndexSet.{insert_key, insert_all}
use Rattle.cmb_netlist.specs.declared.netlist.Cell.{Cell}
use Rattle.cmb_netlist.specs.declared.netlist.Cell.TheVariants.{Gate, Flop}
use Rattle.cmb_bench.specs.Statement.{Statement, input, output, drive, Mention, driven_by, driven}
use Rattle.cmb_netlist.specs.declared.netlist.Driver.{Driver}
use Rattle.cmb_netlist.specs.Netlist.{Netlist, MayTake, IsWired, IsNetlist}
use Rattle.cmb_bench.specs.Grammar.{HasArity, AreLawful}
use Rattle.cmb_bench.specs.Meaning.{driver_from, Numbers, Drivers}
use Rattle.cmb_bench.specs.Inner.Building.{built}
use Rattle.cmb_bench.proofs.Meant.{built_means}
use Rattle.cmb_bench.proofs.Whole.{few_nets}

abbrev Below : ℕ → List ℕ → Type 0
Below nets ns = AllByRecursion (λ n. n < nets) ns

numbers_below : (names : List (List ℕ)) (ms : List Mention) (ns : List ℕ) → Numbers names ms ns → Below (length names) ns
numbers_below names [] [] h = tt
numbers_below names [] (n ∷ ns) h = absurd h
numbers_below names (m ∷ ms) [] h = absurd h
numbers_below names (m ∷ ms) (n ∷ ns) h = ((position-Some (bytes_eq m.name) names n [] h.0).0, numbers_below names ms ns h.1)

as_many : (names : List (List ℕ)) (ms : List Mention) (ns : List ℕ) → Numbers names ms ns → length ms ≡ length ns
as_many names [] [] h = refl
as_many names [] (n ∷ ns) h = absurd h
as_many names (m ∷ ms) [] h = absurd h
as_many names (m ∷ ms) (n ∷ ns) h = omega (arith, as_many names ms ns h.1)

-- what holds of each element holds at each place
all_of : {X : Type 0} (P : X → Type 0) (xs : List X) → AllByRecursion P xs → All P xs
all_of P [] h k d within = absurd (omega arith)
all_of P (x ∷ xs) h zero d within = h.0
all_of P (x ∷ xs) h (suc k) d within = all_of P xs h.1 k d (omega arith)

driver_sound : (names : List (List ℕ)) (cell : Cell) (ms : List Mention) (ns : List ℕ) → HasArity cell ms → Numbers names ms ns → IsWired (length names) (driver_from cell ns)
driver_sound names (Gate kind) ms ns arity h = (subst (MayTake kind) (as_many names ms ns h) arity, all_of _ ns (numbers_below names ms ns h))
driver_sound names Flop ms [] arity h = absurd (omega (arith, arity, as_many names ms [] h))
driver_sound names Flop ms (n ∷ ns) arity h = (numbers_below names ms (n ∷ ns) h).0

record Sound (nets : ℕ) (ss : List Statement) (xs : List Driver) : Type 0 where
  count : length (driven ss) ≡ length xs
  operands : AllByRecursion (IsWired nets) xs

more_drivers : (nets : ℕ) (s : Statement) (ss : List Statement) (n : List ℕ) (x : Driver) (xs all : List Driver) → driven_by s ≡ n ∷ [] → IsWired nets x → all ≡ x ∷ xs → Sound nets ss xs → Sound nets (s ∷ ss) all
more_drivers nets s ss n x xs all drives h is more = subst (Sound nets (s ∷ ss)) (sym is) (record { count = ap (λ l. length (l ++ driven ss)) drives ∙ omega (arith, more.count); operands = (h, more.operands) })

drivers_sound : (names before : List (List ℕ)) (ss : List Statement) (xs : List Driver) → Drivers names ss xs → AreLawful before ss → Sound (length names) ss xs
drivers_sound names before [] xs h lawful = subst (Sound (length names) []) (sym h) (record { count = refl; operands = tt })
drivers_sound names before (input n ∷ ss) xs h lawful = more_drivers (length names) (input n) ss n _ h.0 xs refl tt h.1 (drivers_sound names (before ++ n ∷ []) ss h.0 h.2 lawful.1)
drivers_sound names before (output m ∷ ss) xs h lawful = let more = drivers_sound names (before ++ []) ss xs h lawful.1 in record { count = more.count; operands = more.operands }
drivers_sound names before (drive n f ms ∷ ss) xs h lawful = more_drivers (length names) (drive n f ms) ss n (driver_from f h.0) h.1 xs refl (driver_sound names f ms h.0 lawful.0.1 h.2) h.3 (drivers_sound names (before ++ n ∷ []) ss h.1 h.4 lawful.1)

below_append : (nets : ℕ) (ks : List ℕ) (n : ℕ) → Below nets ks → n < nets → Below nets (ks ++ n ∷ [])
below_append nets [] n h k = (k, tt)
below_append nets (x ∷ ks) n h k = (h.0, below_append nets ks n h.1 k)

below_insert : (nets : ℕ) (ks : List ℕ) (n : ℕ) → Below nets ks → n < nets → Below nets (insert_key nat_eq ks n)
below_insert nets ks n h k = elim (list_any (nat_eq n) ks) as (λ v. Below nets (if v then ks else ks ++ n ∷ [])) [ true ↦ h | false ↦ below_append nets ks n h k ]

below_all : (nets : ℕ) (ks ns : List ℕ) → Below nets ks → Below nets ns → Below nets (insert_all nat_eq ks ns)
below_all nets ks [] h k = h
below_all nets ks (n ∷ ns) h k = below_all nets (insert_key nat_eq ks n) ns (below_insert nets ks n h k.0) k.1

-- ---- no name and no output comes twice

none_distinct : {K : Type 0} (e : K → K → Bool) → IsDistinct e []
unfolding IsDistinct
none_distinct e = tt

insert_distinct : (ks : List ℕ) (n : ℕ) (b : Bool) → IsDistinct nat_eq ks → list_any (nat_eq n) ks ≡ b → IsDistinct nat_eq (if b then ks else ks ++ n ∷ [])
insert_distinct ks n true h e = h
insert_distinct ks n false h e = IsDistinct-push nat_eq_equiv ks n h e

all_distinct : (ks ns : List ℕ) → IsDistinct nat_eq ks → IsDistinct nat_eq (insert_all nat_eq ks ns)
all_distinct ks [] h = h
all_distinct ks (n ∷ ns) h = all_distinct (insert_key nat_eq ks n) ns (insert_distinct ks n (list_any (nat_eq n) ks) h refl)

names_distinct : (before : List (List ℕ)) (ss : List Statement) → AreLawful before ss → IsDistinct bytes_eq before → IsDistinct bytes_eq (before ++ driven ss)
names_distinct before [] lawful h = subst (IsDistinct bytes_eq) (sym (append-nil before)) h
names_distinct before (input n ∷ ss) lawful h = subst (IsDistinct bytes_eq) (append_assoc before (n ∷ []) (driven ss)) (names_distinct (before ++ n ∷ []) ss lawful.1 (IsDistinct-push nat_list_eq_equiv before n h lawful.0.other))
names_distinct before (output m ∷ ss) lawful h = names_distinct before ss (subst (λ l. AreLawful l ss) (append-nil before) lawful.1) h
names_distinct before (drive n f ms ∷ ss) lawful h = subst (IsDistinct bytes_eq) (append_assoc before (n ∷ []) (driven ss)) (names_distinct (before ++ n ∷ []) ss lawful.1 (IsDistinct-push nat_list_eq_equiv before n h lawful.0.0.other))

names_short : (before : List (List ℕ)) (ss : List Statement) → AreLawful before ss → AllByRecursion (λ name. length name ≤ 255) (driven ss)
names_short before [] lawful = tt
names_short before (input n ∷ ss) lawful = (lawful.0.short, names_short (before ++ n ∷ []) ss lawful.1)
names_short before (output m ∷ ss) lawful = names_short (before ++ []) ss lawful.1
names_short before (drive n f ms ∷ ss) lawful = (lawful.0.0.short, names_short (before ++ n ∷ []) ss lawful.1)

pub built_sound : (names : List (List ℕ)) (ss : List Statement) (c : Netlist) → names ≡ driven ss → AreLawful [] ss → built names [] ss ≡ Ok (c.drivers, c.outputs) → c.names ≡ names → IsNetlist c
built_sound names ss c names_are lawful e same =
    let means = built_means names ss [] (c.drivers, c.outputs) e in
    let sound = drivers_sound names [] ss c.drivers means.drives lawful in
    let named = same ∙ names_are in
    record {
      paired = sym (ap length named ∙ sound.count);
      few = omega (arith, few_nets [] ss lawful (omega arith), ap length named);
      short_names = subst (All (λ name. length name ≤ 255)) (sym named) (all_of _ (driven ss) (names_short [] ss lawful));
      different_names = subst (IsDistinct bytes_eq) (sym named) (names_distinct [] ss lawful (none_distinct bytes_eq));
      wired = subst (λ l. All (IsWired (length l)) c.drivers) (sym same) (all_of _ c.drivers sound.operands);
      outputs = subst (λ l. All (λ net. net < length l) c.outputs) (sym same) (subst (All (λ net. net < length names)) (sym means.once) (all_of _ _ (below_all (length names) [] means.numbers tt (numbers_below names _ means.numbers means.named))));
      different_outputs = subst (IsDistinct nat_eq) (sym means.once) (all_distinct [] means.numbers (none_distinct nat_eq));
    }
