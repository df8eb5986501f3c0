-- The parts of opening a cluster.
use Rattle.std.proofs.Common.{◌≡◌, ℕ, zero, suc, add-one, ◌+◌, ◌<◌, ◌≤◌, Bool, true, false, ◌&&◌, ◌||◌, cond, eqb, List, [], ◌∷◌, ◌++◌, ◌⊎◌, inl, inr, length, get_or, set, take, drop, Option, Some, None, IsSome, refl, sym, ◌∙◌, ap, arith, get_or-set_same, get_or-set_other}
use Rattle.std.specs.Prelude.{All, filter, option_map}
use Rattle.std.specs.List.{AllByRecursion, list_any, range_with_len}
use Rattle.std.proofs.lemmas.Bool.{eq-eqb, ne_eqb, cases_eq}
use Rattle.std.proofs.lemmas.List.Folds.{list_any_more}
use Rattle.std.proofs.lemmas.List.{drop_more}
use Rattle.std.proofs.lemmas.List.Elements.{All-from_recursion}
use Rattle.cmb_wave.specs.declared.level.Level.{Level}
use Rattle.cmb_wave.specs.declared.level.Change.{Change}
use Rattle.cmb_wave.specs.Waveform.{changes_between}
use Rattle.cmb_wave.specs.Wave.{Wave}
use Rattle.cmb_wave.proofs.Waveforms.{changes_between-rises}
use Rattle.cmb_netlist.specs.declared.netlist.Kind.{Kind}
use Rattle.cmb_netlist.specs.Netlist.{MayTake, driver_of, pins_of}
use Rattle.cmb_design_model.specs.Design.{Design}
use Rattle.cmb_design_model.specs.Timing.{delay}
use Rattle.cmb_design_model.proofs.AskFacts.{rises-within}
use Rattle.cmb_core_cluster.specs.declared.process.ProcessPin.{ProcessPin}
use Rattle.cmb_core_cluster.specs.declared.process.ProcessRule.TheVariants.{Input, Gate, Flop}
use Rattle.cmb_core_cluster.specs.Clustering.{Clustering, cluster_of, net_reads, some_below}
use Rattle.cmb_core_cluster.specs.Clusters.{AreOperands}
use Rattle.cmb_core_cluster.specs.Opened.{IsProcessOf, AreProcessesOf}
use Rattle.cmb_core_cluster.specs.Inner.Opening.{ArePlaced, AreRead, AreAt, AreWhole, StartsOn, AllStartOn}
use Rattle.cmb_core_cluster.specs.Rows.{Process, IsReadyFor, AreReady, is_given}
use Rattle.cmb_core_cluster.specs.Directory.{place_in, driven_among, given_among}

-- ---- marks

or_false : (a b : Bool) → ((a || false) || b) ≡ (a || b)
or_false true b = refl
or_false false b = refl

or_true : (a b : Bool) → ((a || true) || b) ≡ true
or_true true b = refl
or_true false b = refl

-- the net on one more pin is marked
pub mark_more : (pins : List ℕ) (read : List Bool) (k : ℕ) (before : Bool) (net : ℕ) → k < length pins → get_or pins k 0 < length read
    → get_or read net false ≡ (list_any (λ pin. eqb pin net) (take k pins) || before)
    → get_or (set read (get_or pins k 0) true) net false ≡ (list_any (λ pin. eqb pin net) (take (k + 1) pins) || before)
mark_more pins read k before net within inside e = rw (list_any_more (λ pin. eqb pin net) pins k 0 within) (go (cases_eq net (get_or pins k 0)))
  where
    any : Bool
    any = list_any (λ pin. eqb pin net) (take k pins)

    go : (net ≡ get_or pins k 0) ⊎ (net ≡ get_or pins k 0 → ⊥) → get_or (set read (get_or pins k 0) true) net false ≡ ((any || eqb (get_or pins k 0) net) || before)
    go (inl same) =
        ap (λ n. get_or (set read (get_or pins k 0) true) n false) same ∙ get_or-set_same read (get_or pins k 0) true false inside
        ∙ sym (ap (λ b. (any || b) || before) (eq-eqb (get_or pins k 0) net (sym same)) ∙ or_true any before)
    go (inr ne) =
        get_or-set_other read (get_or pins k 0) net true false ne ∙ e
        ∙ sym (ap (λ b. (any || b) || before) (ne_eqb (get_or pins k 0) net (λ q. ne (sym q))) ∙ or_false any before)

-- one more net is looked at: one of the cluster's own, whose pins are marked, or another
pub read_own : (design : Design) (clustering : Clustering) (cluster upto : ℕ) (old new : List Bool) (pins : List ℕ) → AreRead design clustering cluster upto old
    → cluster_of clustering upto ≡ cluster → pins ≡ pins_of (driver_of design.netlist upto) → length new ≡ length old
    → ((net : ℕ) → get_or new net false ≡ (list_any (λ pin. eqb pin net) pins || get_or old net false)) → AreRead design clustering cluster (upto + 1) new
read_own design clustering cluster upto old new pins is own here long marked = record {
  count = long ∙ is.count;
  each = λ net within.
      let reads = λ (reader : ℕ). eqb (cluster_of clustering reader) cluster && net_reads design reader net in
      rw add-one (marked net ∙ ap (λ (ps : List ℕ). list_any (λ pin. eqb pin net) ps || get_or old net false) here
      ∙ ap (λ (b : Bool). net_reads design upto net || b) (is.each net within)
      ∙ ap (λ (b : Bool). (b && net_reads design upto net) || some_below reads upto) (sym (eq-eqb (cluster_of clustering upto) cluster own)));
}

pub read_other : (design : Design) (clustering : Clustering) (cluster upto : ℕ) (read : List Bool) → AreRead design clustering cluster upto read → (cluster_of clustering upto ≡ cluster → ⊥)
    → AreRead design clustering cluster (upto + 1) read
read_other design clustering cluster upto read is other = record {
  count = is.count;
  each = λ net within.
      let reads = λ (reader : ℕ). eqb (cluster_of clustering reader) cluster && net_reads design reader net in
      rw add-one (is.each net within ∙ ap (λ (b : Bool). (b && net_reads design upto net) || some_below reads upto) (sym (ne_eqb (cluster_of clustering upto) cluster other)));
}

-- ---- numbers that pass a test

range_more : (a n : ℕ) → range_with_len a (suc n) ≡ range_with_len a n ++ (a + n) ∷ []
range_more a zero = let e : a ≡ a + 0 = omega arith in ap (λ x. x ∷ []) e
range_more a (suc n) =
    let e : a + 1 + n ≡ a + suc n = omega arith in
    ap (λ xs. a ∷ xs) (range_more (a + 1) n ∙ ap (λ x. range_with_len (a + 1) n ++ x ∷ []) e)

filter-snoc : (p : ℕ → Bool) (xs : List ℕ) (x : ℕ) → filter p (xs ++ x ∷ []) ≡ filter p xs ++ cond (p x) (x ∷ []) []
filter-snoc p [] x = refl
filter-snoc p (y ∷ ys) x = go (p y) (filter-snoc p ys x)
  where
    go : (b : Bool) → filter p (ys ++ x ∷ []) ≡ filter p ys ++ cond (p x) (x ∷ []) [] → cond b (y ∷ filter p (ys ++ x ∷ [])) (filter p (ys ++ x ∷ [])) ≡ cond b (y ∷ filter p ys) (filter p ys) ++ cond (p x) (x ∷ []) []
    go true rest = ap (λ zs. y ∷ zs) rest
    go false rest = rest

pub filter_range_more : (p : ℕ → Bool) (n : ℕ) → filter p (range_with_len 0 (n + 1)) ≡ filter p (range_with_len 0 n) ++ cond (p n) (n ∷ []) []
filter_range_more p n =
    let next : n + 1 ≡ suc n = omega arith in
    let here : 0 + n ≡ n = omega arith in
    ap (λ k. filter p (range_with_len 0 k)) next ∙ ap (filter p) (range_more 0 n) ∙ ap (λ k. filter p (range_with_len 0 n ++ k ∷ [])) here ∙ filter-snoc p (range_with_len 0 n) n

pub filter_range_same : (p q : ℕ → Bool) (a n : ℕ) → ((x : ℕ) → a ≤ x → x < a + n → p x ≡ q x) → filter p (range_with_len a n) ≡ filter q (range_with_len a n)
filter_range_same p q a zero same = refl
filter_range_same p q a (suc n) same =
    let here : p a ≡ q a = same a (omega arith) (omega arith) in
    let rest : filter p (range_with_len (a + 1) n) ≡ filter q (range_with_len (a + 1) n) = filter_range_same p q (a + 1) n (λ x low high. same x (omega arith) (omega arith)) in
    rw (here, rest) refl

filter_range_within : (p : ℕ → Bool) (a n most : ℕ) → a + n ≤ most → AllByRecursion (λ x. (x < most) × (p x ≡ true)) (filter p (range_with_len a n))
filter_range_within p a zero most h = tt
filter_range_within p a (suc n) most h = go (p a) refl (filter_range_within p (a + 1) n most (omega arith))
  where
    go : (b : Bool) → p a ≡ b → AllByRecursion (λ x. (x < most) × (p x ≡ true)) (filter p (range_with_len (a + 1) n)) → AllByRecursion (λ x. (x < most) × (p x ≡ true)) (cond b (a ∷ filter p (range_with_len (a + 1) n)) (filter p (range_with_len (a + 1) n)))
    go true e rest = ((omega arith, e), rest)
    go false e rest = rest

pub filter_range_all : (p : ℕ → Bool) (n : ℕ) → All (λ x. (x < n) × (p x ≡ true)) (filter p (range_with_len 0 n))
filter_range_all p n = All-from_recursion (λ x. (x < n) × (p x ≡ true)) (filter p (range_with_len 0 n)) (filter_range_within p 0 n n (omega arith))

-- a number that passes has a place
pub filter_range_place : (p : ℕ → Bool) (a n x : ℕ) → a ≤ x → x < a + n → p x ≡ true → IsSome (place_in (filter p (range_with_len a n)) x)
filter_range_place p a zero x low high passes = absurd (omega arith)
filter_range_place p a (suc n) x low high passes = go (p a) (cases_eq a x) refl (λ above. filter_range_place p (a + 1) n x above (omega arith) passes)
  where
    mapped : (o : Option ℕ) → IsSome o → IsSome (option_map (λ place. suc place) o)
    mapped None h = h
    mapped (Some k) h = h

    found : (b : Bool) → IsSome (place_in (filter p (range_with_len (a + 1) n)) x) → IsSome (cond b (Some 0) (option_map (λ place. suc place) (place_in (filter p (range_with_len (a + 1) n)) x)))
    found true rest = refl
    found false rest = mapped _ rest

    go : (b : Bool) → (a ≡ x) ⊎ (a ≡ x → ⊥) → p a ≡ b → (a + 1 ≤ x → IsSome (place_in (filter p (range_with_len (a + 1) n)) x)) → IsSome (place_in (cond b (a ∷ filter p (range_with_len (a + 1) n)) (filter p (range_with_len (a + 1) n))) x)
    go true (inl same) e rest = let here : eqb a x ≡ true = eq-eqb a x same in rw here refl
    go true (inr ne) e rest = found (eqb a x) (rest (omega arith))
    go false (inl same) e rest = let not_so : p a ≡ true = ap p same ∙ passes in cc
    go false (inr ne) e rest = rest (omega arith)

-- ---- places

abbrev pub shifted : ℕ → Option ℕ → Option ℕ
shifted n o = option_map (λ place. n + place) o

shifted_more : (k : ℕ) (o : Option ℕ) → shifted (k + 1) o ≡ shifted k (option_map (λ place. suc place) o)
shifted_more k None = refl
shifted_more k (Some place) = let e : k + 1 + place ≡ k + suc place = omega arith in ap (λ n. Some n) e

pub place_more : (nets : List ℕ) (places : List (Option ℕ)) (k net : ℕ) → k < length nets → get_or nets k 0 < length places
    → get_or places net None ≡ shifted (k + 1) (place_in (drop (k + 1) nets) net)
    → get_or (set places (get_or nets k 0) (Some k)) net None ≡ shifted k (place_in (drop k nets) net)
place_more nets places k net h b e = go (cases_eq net (get_or nets k 0))
  where
    head : drop k nets ≡ get_or nets k 0 ∷ drop (k + 1) nets
    head = drop_more nets k 0 h

    go : (net ≡ get_or nets k 0) ⊎ (net ≡ get_or nets k 0 → ⊥) → get_or (set places (get_or nets k 0) (Some k)) net None ≡ shifted k (place_in (drop k nets) net)
    go (inl same) =
        let here : eqb (get_or nets k 0) net ≡ true = eq-eqb _ _ (sym same) in
        let put : get_or (set places (get_or nets k 0) (Some k)) net None ≡ Some k = ap (λ n. get_or (set places (get_or nets k 0) (Some k)) n None) same ∙ get_or-set_same places (get_or nets k 0) (Some k) None b in
        let none : k ≡ k + 0 = omega arith in
        put ∙ ap (λ n. Some n) none ∙ sym (ap (λ t. shifted k (place_in t net)) head ∙ ap (λ t. shifted k (cond t (Some 0) (option_map (λ place. suc place) (place_in (drop (k + 1) nets) net)))) here)
    go (inr ne) =
        let other : eqb (get_or nets k 0) net ≡ false = ne_eqb _ _ (λ q. ne (sym q)) in
        let put : get_or (set places (get_or nets k 0) (Some k)) net None ≡ get_or places net None = get_or-set_other places (get_or nets k 0) net (Some k) None ne in
        put ∙ e ∙ shifted_more k (place_in (drop (k + 1) nets) net)
        ∙ sym (ap (λ t. shifted k (place_in t net)) head ∙ ap (λ t. shifted k (cond t (Some 0) (option_map (λ place. suc place) (place_in (drop (k + 1) nets) net)))) other)

pub placed_at : (places : List (Option ℕ)) (nets : List ℕ) (i d : ℕ) → ArePlaced places nets → i < length nets → IsSome (get_or places (get_or nets i d) None)
placed_at places [] i d a h = absurd (omega arith)
placed_at places (net ∷ nets) zero d a h = a.0
placed_at places (net ∷ nets) (suc i) d a h = placed_at places nets i d a.1 (omega arith)

-- ---- operands

pub operands_more : (design : Design) (net pin x : ℕ) (o : ProcessPin) (xs : List ℕ) (os : List ProcessPin) → AreOperands design net pin xs os → o.net ≡ x → o.delay ≡ delay design net (pin + length xs)
    → AreOperands design net pin (xs ++ x ∷ []) (os ++ o ∷ [])
operands_more design net pin x o [] [] a e d = let none : pin + 0 ≡ pin = omega arith in (e, d ∙ ap (delay design net) none, tt)
operands_more design net pin x o (y ∷ ys) (q ∷ os) a e d =
    let next : pin + suc (length ys) ≡ suc pin + length ys = omega arith in
    (a.0, a.1, operands_more design net (suc pin) x o ys os a.2 e (d ∙ ap (delay design net) next))
operands_more design net pin x o [] (q ∷ os) a e d = absurd a
operands_more design net pin x o (y ∷ ys) [] a e d = absurd a

pub at_more : (places : List (Option ℕ)) (os : List ProcessPin) (o : ProcessPin) → AreAt places os → get_or places o.net None ≡ Some o.slot → AreAt places (os ++ o ∷ [])
at_more places [] o a e = (e, tt)
at_more places (q ∷ os) o a e = (a.0, at_more places os o a.1 e)

-- ---- ready to start

pub ready_at : (places : List (Option ℕ)) (waves : List Wave) (os : List ProcessPin) → AreWhole places waves → AreAt places os → AreReady waves 0 os
ready_at places waves [] whole a = tt
ready_at places waves (o ∷ os) whole a = ((whole.slots o.net ∙ a.0, omega (arith, whole.bases o.net)), ready_at places waves os whole a.1)

pub gate_starts : (places : List (Option ℕ)) (kind : Kind) (os : List ProcessPin) (cs : List Change) → MayTake kind (length os) → AreAt places os
    → StartsOn places (record { rule = Gate kind; operands = os; stimulus = cs })
gate_starts places kind os cs takes a = record { at = a; ready = λ waves whole. (takes, ready_at places waves os whole a) }

flop_ready : (places : List (Option ℕ)) (first period : ℕ) (init : Level) (os : List ProcessPin) (cs : List Change) → 0 < period → length os ≡ 1 → AreAt places os
    → (waves : List Wave) → AreWhole places waves → IsReadyFor waves 0 (Flop first period init) os cs
flop_ready places first period init [] cs positive one a waves whole = absurd (omega arith)
flop_ready places first period init (o ∷ []) cs positive one a waves whole =
    (positive, whole.slots o.net ∙ a.0, omega (arith, whole.bases o.net))
flop_ready places first period init (o ∷ q ∷ os) cs positive one a waves whole = absurd (omega arith)

pub flop_starts : (places : List (Option ℕ)) (first period : ℕ) (init : Level) (os : List ProcessPin) (cs : List Change) → 0 < period → length os ≡ 1 → AreAt places os
    → StartsOn places (record { rule = Flop first period init; operands = os; stimulus = cs })
flop_starts places first period init os cs positive one a = record { at = a; ready = flop_ready places first period init os cs positive one a }

pub input_starts : (horizon : ℕ) (places : List (Option ℕ)) (level : ℕ → Level) (cs : List Change) → cs ≡ changes_between level 0 horizon
    → StartsOn places (record { rule = Input; operands = []; stimulus = cs })
input_starts horizon places level cs e =
    record { at = tt; ready = λ waves whole. rw e (rises-within 0 horizon (changes_between level 0 horizon) (changes_between-rises level 0 horizon (omega arith))) }

-- ---- lists of processes

pub processes_more : (design : Design) (clustering : Clustering) (cluster net : ℕ) (process : Process) (nets : List ℕ) (processes : List Process)
    → AreProcessesOf design clustering cluster nets processes → IsProcessOf design clustering cluster net process
    → AreProcessesOf design clustering cluster (nets ++ net ∷ []) (processes ++ process ∷ [])
processes_more design clustering cluster net process [] [] a is = (is, tt)
processes_more design clustering cluster net process (n ∷ nets) (p ∷ processes) a is = (a.0, processes_more design clustering cluster net process nets processes a.1 is)
processes_more design clustering cluster net process [] (p ∷ processes) a is = absurd a
processes_more design clustering cluster net process (n ∷ nets) [] a is = absurd a

pub starts_more : (places : List (Option ℕ)) (process : Process) (processes : List Process) → AllStartOn places processes → StartsOn places process
    → AllStartOn places (processes ++ process ∷ [])
starts_more places process [] a s = (s, tt)
starts_more places process (p ∷ processes) a s = (a.0, starts_more places process processes a.1 s)

pub driven_more : (process : Process) (net : ℕ) (processes : List Process) (nets : List ℕ) → length processes ≡ length nets
    → driven_among (processes ++ process ∷ []) (nets ++ net ∷ []) ≡ driven_among processes nets ++ cond (is_given process.rule) [] (net ∷ [])
driven_more process net [] [] e = refl
driven_more process net [] (n ∷ nets) e = absurd (omega arith)
driven_more process net (p ∷ processes) [] e = absurd (omega arith)
driven_more process net (p ∷ processes) (n ∷ nets) e = go (is_given p.rule) (driven_more process net processes nets (omega arith))
  where
    go : (b : Bool) → driven_among (processes ++ process ∷ []) (nets ++ net ∷ []) ≡ driven_among processes nets ++ cond (is_given process.rule) [] (net ∷ [])
        → cond b (driven_among (processes ++ process ∷ []) (nets ++ net ∷ [])) (n ∷ driven_among (processes ++ process ∷ []) (nets ++ net ∷ []))
        ≡ cond b (driven_among processes nets) (n ∷ driven_among processes nets) ++ cond (is_given process.rule) [] (net ∷ [])
    go true rest = rest
    go false rest = ap (λ xs. n ∷ xs) rest

pub given_more : (process : Process) (net : ℕ) (processes : List Process) (nets : List ℕ) → length processes ≡ length nets
    → given_among (processes ++ process ∷ []) (nets ++ net ∷ []) ≡ given_among processes nets ++ cond (is_given process.rule) (net ∷ []) []
given_more process net [] [] e = refl
given_more process net [] (n ∷ nets) e = absurd (omega arith)
given_more process net (p ∷ processes) [] e = absurd (omega arith)
given_more process net (p ∷ processes) (n ∷ nets) e = go (is_given p.rule) (given_more process net processes nets (omega arith))
  where
    go : (b : Bool) → given_among (processes ++ process ∷ []) (nets ++ net ∷ []) ≡ given_among processes nets ++ cond (is_given process.rule) (net ∷ []) []
        → cond b (n ∷ given_among (processes ++ process ∷ []) (nets ++ net ∷ [])) (given_among (processes ++ process ∷ []) (nets ++ net ∷ []))
        ≡ cond b (n ∷ given_among processes nets) (given_among processes nets) ++ cond (is_given process.rule) (net ∷ []) []
    go true rest = ap (λ xs. n ∷ xs) rest
    go false rest = rest
