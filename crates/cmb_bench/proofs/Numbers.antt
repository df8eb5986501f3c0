-- One round of the loops over uses and statements.
use Rattle.cmb_bench.specs.Inner.Reading.{◌>>=◌}
use Rattle.std.proofs.Common.{◌≡◌, ℕ, ◌+◌, ◌<◌, List, [], ◌∷◌, ◌++◌, refl, sym, ap, ◌∙◌, Result, Ok, Err, map, drop, length, append_assoc, append-nil, get_or}
use Rattle.std.proofs.lemmas.List.{drop_more, drop_all}
use Rattle.cmb_bench.specs.declared.fault.BenchFault.{BenchFault}
use Rattle.cmb_bench.specs.declared.parser.Use.{Use}
use Rattle.std.specs.Prelude.{◌≤◌, nat_eq}
use Rattle.indexmap.specs.IndexSet.{insert_key}
use Rattle.cmb_bench.specs.declared.parser.Item.{Item}
use Rattle.cmb_netlist.specs.declared.netlist.Cell.{Cell}
use Rattle.cmb_bench.specs.Statement.{Mention, Statement, input, output, drive}
use Rattle.cmb_netlist.specs.declared.netlist.Driver.{Driver}
use Rattle.cmb_netlist.specs.declared.netlist.Driver.TheVariants.{Input}
use Rattle.cmb_bench.specs.Meaning.{driver_from}
use Rattle.cmb_bench.specs.Inner.Views.{mention, mentions, statement}
use Rattle.cmb_bench.specs.Inner.Building.{number_in, numbers_in, built, with_drivers}

-- what is found, with these numbers in front
abbrev pub with_numbers : List ℕ → Result (List ℕ) BenchFault → Result (List ℕ) BenchFault
with_numbers numbers read = do
  more ← read
  Ok (numbers ++ more)

with_more : (done : List ℕ) (n : ℕ) (read : Result (List ℕ) BenchFault) → with_numbers (done ++ n ∷ []) read ≡ with_numbers done (with_numbers (n ∷ []) read)
with_more done n (Ok x) = ap Ok (append_assoc done (n ∷ []) x)
with_more done n (Err e) = refl

one_more : (names : List (List ℕ)) (n : ℕ) (m : Mention) (ms : List Mention) → number_in names m ≡ Ok n → numbers_in names (m ∷ ms) ≡ with_numbers (n ∷ []) (numbers_in names ms)
unfolding numbers_in
one_more names n m ms is = rw is refl

pub uses_round : (names : List (List ℕ)) (uses : List Use) (i : ℕ) (d : Use) (done new : List ℕ) (n : ℕ) → i < length uses → number_in names (mention (get_or uses i d)) ≡ Ok n → new ≡ done ++ n ∷ [] →
    with_numbers new (numbers_in names (mentions (drop (i + 1) uses))) ≡ with_numbers done (numbers_in names (mentions (drop i uses)))
uses_round names uses i d done new n within is new_is =
    ap (λ l. with_numbers l (numbers_in names (mentions (drop (i + 1) uses)))) new_is ∙ with_more done n (numbers_in names (mentions (drop (i + 1) uses)))
    ∙ ap (with_numbers done) (sym (ap (λ l. numbers_in names (mentions l)) (drop_more uses i d within) ∙ one_more names n (mention (get_or uses i d)) (mentions (drop (i + 1) uses)) is))

stop : (names : List (List ℕ)) (f : BenchFault) (m : Mention) (ms : List Mention) → number_in names m ≡ Err f → numbers_in names (m ∷ ms) ≡ Err f
unfolding numbers_in
stop names f m ms is = rw is refl

pub uses_stop : (names : List (List ℕ)) (uses : List Use) (i : ℕ) (d : Use) (done : List ℕ) (f : BenchFault) → i < length uses → number_in names (mention (get_or uses i d)) ≡ Err f →
    with_numbers done (numbers_in names (mentions (drop i uses))) ≡ Err f
uses_stop names uses i d done f within is = ap (λ l. with_numbers done (numbers_in names (mentions l))) (drop_more uses i d within) ∙ ap (with_numbers done) (stop names f (mention (get_or uses i d)) (mentions (drop (i + 1) uses)) is)

none_left : (names : List (List ℕ)) → numbers_in names [] ≡ Ok []
unfolding numbers_in
none_left names = refl

pub uses_end : (names : List (List ℕ)) (uses : List Use) (i : ℕ) (done : List ℕ) → length uses ≤ i → with_numbers done (numbers_in names (mentions (drop i uses))) ≡ Ok done
uses_end names uses i done past = ap (λ l. with_numbers done (numbers_in names (mentions l))) (drop_all i uses past) ∙ ap (with_numbers done) (none_left names) ∙ ap Ok (append-nil done)

-- ---- statements

drivers_more : (done : List Driver) (x : Driver) (read : Result (List Driver × List ℕ) BenchFault) → with_drivers (done ++ x ∷ []) read ≡ with_drivers done (with_drivers (x ∷ []) read)
drivers_more done x (Ok r) = ap (λ l. Ok (l, r.1)) (append_assoc done (x ∷ []) r.0)
drivers_more done x (Err e) = refl

pub add_input : (names : List (List ℕ)) (done new : List Driver) (outputs : List ℕ) (n : List ℕ) (ss : List Statement) → new ≡ done ++ Input ∷ [] → with_drivers new (built names outputs ss) ≡ with_drivers done (built names outputs (input n ∷ ss))
unfolding built
add_input names done new outputs n ss new_is = ap (λ l. with_drivers l (built names outputs ss)) new_is ∙ drivers_more done Input (built names outputs ss)

pub add_output : (names : List (List ℕ)) (done : List Driver) (outputs new : List ℕ) (m : Mention) (k : ℕ) (ss : List Statement) → number_in names m ≡ Ok k → new ≡ insert_key nat_eq outputs k → with_drivers done (built names new ss) ≡ with_drivers done (built names outputs (output m ∷ ss))
unfolding built
add_output names done outputs new m k ss is new_is = rw (new_is, is) refl

pub add_drive : (names : List (List ℕ)) (done new : List Driver) (outputs : List ℕ) (n : List ℕ) (f : Cell) (ms : List Mention) (ns : List ℕ) (ss : List Statement) → numbers_in names ms ≡ Ok ns → new ≡ done ++ driver_from f ns ∷ [] → with_drivers new (built names outputs ss) ≡ with_drivers done (built names outputs (drive n f ms ∷ ss))
unfolding built
add_drive names done new outputs n f ms ns ss is new_is = rw is (ap (λ l. with_drivers l (built names outputs ss)) new_is ∙ drivers_more done (driver_from f ns) (built names outputs ss))

pub no_output : (names : List (List ℕ)) (done : List Driver) (outputs : List ℕ) (m : Mention) (f : BenchFault) (ss : List Statement) → number_in names m ≡ Err f → with_drivers done (built names outputs (output m ∷ ss)) ≡ Err f
unfolding built
no_output names done outputs m f ss is = rw is refl

pub no_drive : (names : List (List ℕ)) (done : List Driver) (outputs : List ℕ) (n : List ℕ) (g : Cell) (ms : List Mention) (f : BenchFault) (ss : List Statement) → numbers_in names ms ≡ Err f → with_drivers done (built names outputs (drive n g ms ∷ ss)) ≡ Err f
unfolding built
no_drive names done outputs n g ms f ss is = rw is refl

pub items_next : (items : List Item) (i : ℕ) (d : Item) → i < length items → map statement (drop i items) ≡ statement (get_or items i d) ∷ map statement (drop (i + 1) items)
items_next items i d within = ap (map statement) (drop_more items i d within)

nothing_left : (names : List (List ℕ)) (outputs : List ℕ) → built names outputs [] ≡ Ok ([], outputs)
unfolding built
nothing_left names outputs = refl

pub items_end : (names : List (List ℕ)) (items : List Item) (i : ℕ) (done : List Driver) (outputs : List ℕ) → length items ≤ i → with_drivers done (built names outputs (map statement (drop i items))) ≡ Ok (done, outputs)
items_end names items i done outputs past = ap (λ l. with_drivers done (built names outputs (map statement l))) (drop_all i items past) ∙ ap (with_drivers done) (nothing_left names outputs) ∙ ap (λ l. Ok (l, outputs)) (append-nil done)

pub items_stop : (names : List (List ℕ)) (items : List Item) (i : ℕ) (x : Item) (done : List Driver) (outputs : List ℕ) (all : Result (List Driver × List ℕ) BenchFault) (f : BenchFault) →
    with_drivers done (built names outputs (map statement (drop i items))) ≡ all → i < length items → x ≡ get_or items i x → with_drivers done (built names outputs (statement x ∷ map statement (drop (i + 1) items))) ≡ Err f → all ≡ Err f
items_stop names items i x done outputs all f so_far within is stops =
    sym so_far ∙ ap (λ l. with_drivers done (built names outputs l)) (items_next items i x within ∙ ap (λ y. statement y ∷ map statement (drop (i + 1) items)) (sym is)) ∙ stops
