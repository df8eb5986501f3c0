-- Nets as they are found, and what is found once none asks for more.
use Rattle.std.proofs.Common.{◌≡◌, ◌≢◌, ℕ, zero, suc, ◌+◌, ◌<◌, ◌≤◌, ◌⊎◌, inl, inr, List, [], ◌∷◌, ◌++◌, length, take, get_or, set, refl, sym, ap, ◌∙◌, subst, arith, Bool, true, false, cond}
use Rattle.std.specs.Prelude.{All, Contains, count_by}
use Rattle.std.specs.List.{filter, range_with_len}
use Rattle.std.specs.List.Sorted.{IsStrictlyIncreasing}
use Rattle.std.proofs.lemmas.Bool.{cases_eq, cases_lt}
use Rattle.std.proofs.lemmas.List.{append-nil, append_assoc, map-id, get_or_default, get_or_past, get_or-set_same, get_or-set_other, length-append, length-set, take-append-le, take_all, take_more}
use Rattle.std.proofs.lemmas.List.Elements.{All-nil, All-append, All-filter, All-push, All-weaker, All-contains, All-contains_itself, filter-append, Contains-append_left, Contains-append_right, Contains-push, filter_passes}
use Rattle.std.proofs.lemmas.List.FromFn.{map-range_with_len_more, length-range_with_len, get_or-range_with_len}
use Rattle.std.proofs.lemmas.List.Kept.{IsStrictlyIncreasing-filter}
use Rattle.std.proofs.lemmas.List.Sums.{count_by-le-length, sum_by-set}
use Rattle.cmb_netlist.specs.Netlist.{Netlist}
use Rattle.cmb_cone.specs.Closed.{IsClosed, IsClosure, asked_by}
use Rattle.cmb_cone.specs.Inner.Found.{IsFound, Gains, Follows}
use Rattle.cmb_cone.specs.declared.closed.Found.{Found}

-- ---- marks

-- what is marked is one of the nets
pub mark_within : (marks : List Bool) (net : ℕ) → get_or marks net false ≡ true → net < length marks
mark_within marks net h = by (cases_lt net (length marks))
  where
    by : (net < length marks) ⊎ (length marks ≤ net) → net < length marks
    by (inl l) = l
    by (inr l) = let e : get_or marks net false ≡ false = get_or_past marks net false l in cc (e, h)

pub count_none : (marks : List Bool) → All (λ mark. mark ≡ false) marks → count_by (λ mark. mark) marks ≡ 0
count_none [] none = refl
count_none (mark ∷ marks) none =
    let here : mark ≡ false = none 0 false (omega arith) in
    let rest : count_by (λ mark. mark) marks ≡ 0 = count_none marks (λ k d within. none (suc k) d (omega arith)) in
    rw (here, rest) refl

pub count_one_more : (marks : List Bool) (net : ℕ) → net < length marks → get_or marks net false ≡ false → count_by (λ mark. mark) (set marks net true) ≡ count_by (λ mark. mark) marks + 1
count_one_more marks net within unmarked =
    let one : Bool → ℕ = λ mark. cond mark 1 0 in
    let more = sum_by-set one marks net true false within in
    let none : one (get_or marks net false) ≡ 0 = ap one unmarked in
    omega (arith, more, none)

pub found_few : (found : Found) → IsFound found → length found.list.items ≤ length found.marks.items
found_few found is = let c = count_by-le-length (λ mark. mark) found.marks.items in omega (arith, is.once, c)

pub found_below : (found : Found) (n : ℕ) → IsFound found → length found.marks.items ≡ n → All (λ net. net < n) found.list.items
found_below found n is e k d within = let l : get_or found.list.items k d < length found.marks.items = mark_within found.marks.items _ (is.marked k d within) in omega (arith, e)

-- ---- gains

pub gains_none : (nets : List ℕ) → Gains nets [] nets
gains_none nets = record { more = []; after = sym (append-nil nets); asked = All-nil (Contains []); has = All-nil (Contains nets) }

pub gains_both : (a b c xs ys : List ℕ) → Gains a xs b → Gains b ys c → Gains a (xs ++ ys) c
gains_both a b c xs ys p q =
    let e : c ≡ a ++ (p.more ++ q.more) = q.after ∙ ap (λ l. l ++ q.more) p.after ∙ append_assoc a p.more q.more in
    let kept : (x : ℕ) → Contains b x → Contains c x = λ x there. let P : List ℕ → Type 0 = λ l. Contains l x in subst P (sym q.after) (Contains-append_left b q.more x there) in
    record {
      more = p.more ++ q.more;
      after = e;
      asked = All-append (Contains (xs ++ ys)) p.more q.more
          (All-weaker (Contains xs) (Contains (xs ++ ys)) (Contains-append_left xs ys) p.more p.asked)
          (All-weaker (Contains ys) (Contains (xs ++ ys)) (Contains-append_right xs ys) q.more q.asked);
      has = All-append (Contains c) xs ys (All-weaker (Contains b) (Contains c) kept xs p.has) q.has;
    }

pub gains_more : (a b c nets : List ℕ) (i : ℕ) (net : ℕ) → i < length nets → net ≡ get_or nets i 0 → Gains a (take i nets) b → Gains b (net ∷ []) c → Gains a (take (i + 1) nets) c
gains_more a b c nets i net within e p q =
    let P : List ℕ → Type 0 = λ l. Gains a l c in
    subst P (sym (take_more nets i 0 within ∙ ap (λ x. take i nets ++ x ∷ []) (sym e))) (gains_both a b c (take i nets) (net ∷ []) p q)

pub gains_kept : (a b xs : List ℕ) → Gains a xs b → (x : ℕ) → Contains a x → Contains b x
gains_kept a b xs p x there = let P : List ℕ → Type 0 = λ l. Contains l x in subst P (sym p.after) (Contains-append_left a p.more x there)

-- ---- one net is added, or is there

pub single : (P : ℕ → Type 0) (x : ℕ) → P x → All P (x ∷ [])
single P x h zero d within = h
single P x h (suc k) d within = absurd (omega arith)

pub gains_there : (found : Found) (net : ℕ) → IsFound found → get_or found.marks.items net false ≡ true → Gains found.list.items (net ∷ []) found.list.items
gains_there found net is marked = record {
  more = [];
  after = sym (append-nil found.list.items);
  asked = All-nil (Contains (net ∷ []));
  has = single (Contains found.list.items) net (is.listed net marked);
}

pub gains_new : (list : List ℕ) (net : ℕ) → Gains list (net ∷ []) (list ++ net ∷ [])
gains_new list net = record {
  more = net ∷ [];
  after = refl;
  asked = All-contains_itself (net ∷ []);
  has = single (Contains (list ++ net ∷ [])) net (Contains-push list net);
}

pub found_new : (found new : Found) (net : ℕ) → IsFound found → net < length found.marks.items → get_or found.marks.items net false ≡ false
    → new.marks.items ≡ set found.marks.items net true → new.list.items ≡ found.list.items ++ net ∷ [] → IsFound new
found_new found new net is within unmarked m l = record {
  marked = let P : List ℕ → Type 0 = λ xs. All Marked xs in
      subst P (sym l) (All-push Marked found.list.items net (All-weaker (λ x. get_or found.marks.items x false ≡ true) Marked still found.list.items is.marked) here);
  listed = λ x h. let P : List ℕ → Type 0 = λ xs. Contains xs x in subst P (sym l) (listed x (cases_eq x net) h);
  once = ap (count_by (λ mark. mark)) m ∙ count_one_more found.marks.items net within unmarked
      ∙ (let e = is.once in let n = length-append found.list.items (net ∷ []) in let o = ap length l in omega (arith, e, n, o));
}
  where
    Marked : ℕ → Type 0
    Marked x = get_or new.marks.items x false ≡ true

    here : get_or new.marks.items net false ≡ true
    here = ap (λ ms. get_or ms net false) m ∙ get_or-set_same found.marks.items net true false within

    other : (x : ℕ) → x ≢ net → get_or new.marks.items x false ≡ get_or found.marks.items x false
    other x ne = ap (λ ms. get_or ms x false) m ∙ get_or-set_other found.marks.items net x true false ne

    still : (x : ℕ) → get_or found.marks.items x false ≡ true → get_or new.marks.items x false ≡ true
    still x h = by (cases_eq x net)
      where
        by : (x ≡ net) ⊎ (x ≢ net) → get_or new.marks.items x false ≡ true
        by (inl e) = ap (λ n. get_or new.marks.items n false) e ∙ here
        by (inr ne) = other x ne ∙ h

    listed : (x : ℕ) → (x ≡ net) ⊎ (x ≢ net) → get_or new.marks.items x false ≡ true → Contains (found.list.items ++ net ∷ []) x
    listed x (inl e) h = let P : ℕ → Type 0 = λ n. Contains (found.list.items ++ net ∷ []) n in subst P (sym e) (Contains-push found.list.items net)
    listed x (inr ne) h = Contains-append_left found.list.items (net ∷ []) x (is.listed x (sym (other x ne) ∙ h))

-- ---- all that are asked for are found

-- so far: the nets before a place have been asked
pub record Asked (netlist : Netlist) (old list : List ℕ) (done : ℕ) : Type 0 where
  pub kept : All (Contains list) old
  pub behind : done ≤ length list
  pub closed : All (λ net. All (Contains list) (asked_by netlist net)) (take done list)
  pub needed : (others : List ℕ) → IsClosed netlist others → All (Contains others) old → All (Contains others) list

pub asked_none : (netlist : Netlist) (list : List ℕ) → Asked netlist list list 0
asked_none netlist list = record {
  kept = All-contains_itself list;
  behind = omega arith;
  closed = All-nil (λ net. All (Contains list) (asked_by netlist net));
  needed = λ others closed all. all;
}

pub asked_more : (netlist : Netlist) (old list new : List ℕ) (done net : ℕ) → done < length list → net ≡ get_or list done 0 → Asked netlist old list done → Gains list (asked_by netlist net) new → Asked netlist old new (done + 1)
asked_more netlist old list new done net within e is gains = record {
  kept = All-weaker (Contains list) (Contains new) keeps old is.kept;
  behind = let n = ap length gains.after in let m = length-append list gains.more in omega (arith, n, m);
  closed =
      let front : take (done + 1) new ≡ take done list ++ net ∷ [] =
      ap (take (done + 1)) gains.after ∙ take-append-le (done + 1) list gains.more (omega arith) ∙ take_more list done 0 within ∙ ap (λ x. take done list ++ x ∷ []) (sym e) in
      let P : List ℕ → Type 0 = λ xs. All Closed xs in
      subst P (sym front) (All-push Closed (take done list) net (All-weaker (λ x. All (Contains list) (asked_by netlist x)) Closed (λ x all. All-weaker (Contains list) (Contains new) keeps (asked_by netlist x) all) (take done list) is.closed) gains.has);
  needed = λ others closed all.
      let before : All (Contains others) list = is.needed others closed all in
      let there : Contains others net = let P : ℕ → Type 0 = λ n. Contains others n in subst P (sym e) (before done 0 within) in
      let asks : All (Contains others) (asked_by netlist net) = All-contains (λ x. All (Contains others) (asked_by netlist x)) others net closed.closed there in
      let P : List ℕ → Type 0 = λ xs. All (Contains others) xs in
      subst P (sym gains.after) (All-append (Contains others) list gains.more before
      (All-weaker (Contains (asked_by netlist net)) (Contains others) (λ x here. All-contains (Contains others) (asked_by netlist net) x asks here) gains.more gains.asked));
}
  where
    Closed : ℕ → Type 0
    Closed x = All (Contains new) (asked_by netlist x)

    keeps : (x : ℕ) → Contains list x → Contains new x
    keeps = gains_kept list new (asked_by netlist net) gains

pub asked_all : (netlist : Netlist) (old list : List ℕ) (done : ℕ) → length list ≤ done → Asked netlist old list done → Follows netlist old list
asked_all netlist old list done end is = record {
  kept = is.kept;
  closed = let P : List ℕ → Type 0 = λ xs. All (λ net. All (Contains list) (asked_by netlist net)) xs in subst P (take_all done list end) is.closed;
  needed = is.needed;
}

-- ---- the marked nets, rising

pub contains_filter : (p : ℕ → Bool) (xs : List ℕ) (x k : ℕ) → k < length xs → get_or xs k x ≡ x → p x ≡ true → Contains (filter p xs) x
contains_filter p [] x k within e passes = absurd (omega arith)
contains_filter p (y ∷ ys) x zero within e passes = let f : p y ≡ true = ap p e ∙ passes in rw f (0, omega arith, e)
contains_filter p (y ∷ ys) x (suc k) within e passes = by (p y) (contains_filter p ys x k (omega arith) e passes)
  where
    by : (b : Bool) → Contains (filter p ys) x → Contains (cond b (y ∷ filter p ys) (filter p ys)) x
    by true there = (suc there.0, let l : there.0 < length (filter p ys) = there.1 in omega arith, there.2)
    by false there = there

pub range_rises : (n : ℕ) → IsStrictlyIncreasing (range_with_len 0 n)
range_rises n k within =
    let long = length-range_with_len 0 n in
    let a : k < n = omega arith in
    let b : k + 1 < n = omega arith in
    omega (arith, get_or-range_with_len 0 n k 0 a, get_or-range_with_len 0 n (k + 1) 0 b)

pub range_below : (n : ℕ) → All (λ net. net < n) (range_with_len 0 n)
range_below n k d within =
    let long = length-range_with_len 0 n in
    let a : k < n = omega arith in
    omega (arith, get_or-range_with_len 0 n k d a)

pub closure_is : (netlist : Netlist) (wanted first : List ℕ) (found : Found) (result : List ℕ) → IsFound found → length found.marks.items ≡ length netlist.names
    → Gains [] wanted first → Follows netlist first found.list.items
    → result ≡ filter (λ net. get_or found.marks.items net false) (range_with_len 0 (length found.marks.items)) → IsClosure netlist wanted result
closure_is netlist wanted first found result is long gains follows e = record {
  closed = record {
    rising = let P : List ℕ → Type 0 = λ xs. IsStrictlyIncreasing xs in subst P (sym e) (IsStrictlyIncreasing-filter mark (range_with_len 0 n) (range_rises n));
    within = let P : List ℕ → Type 0 = λ xs. All (λ net. net < length netlist.names) xs in
        subst P (sym e) (All-weaker (λ net. net < n) (λ net. net < length netlist.names) (λ net l. omega (arith, long)) _ (All-filter mark (λ net. net < n) (range_with_len 0 n) (range_below n)));
    closed = All-weaker (Contains list) (λ net. All (Contains result) (asked_by netlist net))
        (λ net there. All-weaker (Contains list) (Contains result) into (asked_by netlist net) (All-contains (λ x. All (Contains list) (asked_by netlist x)) list net follows.closed there))
        result out;
  };
  has = All-weaker (Contains first) (Contains result) (λ x there. into x (All-contains (Contains list) first x follows.kept there)) wanted gains.has;
  needed = λ others closed all.
      let begun : All (Contains others) first = let P : List ℕ → Type 0 = λ xs. All (Contains others) xs in
      subst P (sym gains.after) (All-weaker (Contains wanted) (Contains others) (λ x there. All-contains (Contains others) wanted x all there) gains.more gains.asked) in
      let whole : All (Contains others) list = follows.needed others closed begun in
      All-weaker (Contains list) (Contains others) (λ x there. All-contains (Contains others) list x whole there) result out;
}
  where
    n : ℕ
    n = length found.marks.items

    list : List ℕ
    list = found.list.items

    mark : ℕ → Bool
    mark net = get_or found.marks.items net false

    into : (x : ℕ) → Contains list x → Contains result x
    into x there =
        let marked : mark x ≡ true = All-contains (λ net. mark net ≡ true) list x is.marked there in
        let within : x < n = mark_within found.marks.items x marked in
        let place : get_or (range_with_len 0 n) x x ≡ x = omega (arith, get_or-range_with_len 0 n x x within) in
        let P : List ℕ → Type 0 = λ xs. Contains xs x in
        subst P (sym e) (contains_filter mark (range_with_len 0 n) x x (omega (arith, length-range_with_len 0 n)) place marked)

    out : All (Contains list) result
    out = let P : List ℕ → Type 0 = λ xs. All (Contains list) xs in
        subst P (sym e) (All-weaker (λ net. mark net ≡ true) (Contains list) is.listed (filter mark (range_with_len 0 n)) (filter_passes mark (range_with_len 0 n)))

pub range_more : (n : ℕ) → range_with_len 0 (n + 1) ≡ range_with_len 0 n ++ n ∷ []
range_more n = sym (map-id (range_with_len 0 (n + 1))) ∙ map-range_with_len_more (λ (k : ℕ). k) 0 n n (omega arith) ∙ ap (λ xs. xs ++ n ∷ []) (map-id (range_with_len 0 n))

pub marked_yes : (p : ℕ → Bool) (net : ℕ) (old new : List ℕ) → old ≡ filter p (range_with_len 0 net) → p net ≡ true → new ≡ old ++ net ∷ [] → new ≡ filter p (range_with_len 0 (net + 1))
marked_yes p net old new so_far marked is =
    is ∙ ap (λ xs. xs ++ net ∷ []) so_far
    ∙ sym (ap (filter p) (range_more net) ∙ filter-append p (range_with_len 0 net) (net ∷ []) ∙ ap (λ b. filter p (range_with_len 0 net) ++ cond b (net ∷ []) []) marked)

pub marked_no : (p : ℕ → Bool) (net : ℕ) (old new : List ℕ) → old ≡ filter p (range_with_len 0 net) → p net ≡ false → new ≡ old → new ≡ filter p (range_with_len 0 (net + 1))
marked_no p net old new so_far unmarked is =
    is ∙ so_far
    ∙ sym (ap (filter p) (range_more net) ∙ filter-append p (range_with_len 0 net) (net ∷ []) ∙ ap (λ b. filter p (range_with_len 0 net) ++ cond b (net ∷ []) []) unmarked ∙ append-nil (filter p (range_with_len 0 net)))

pub unmarked_at : (marks : List Bool) (net : ℕ) (read : Bool) → net < length marks → read ≡ get_or marks net read → read ≡ false → get_or marks net false ≡ false
unmarked_at marks net read within is e = get_or_default marks net false read within ∙ sym is ∙ e

-- what is left of one net that is added, unless it is there
pub record IsAdded (old new : Found) (net : ℕ) : Type 0 where
  pub found : IsFound new
  pub marks : length new.marks.items ≡ length old.marks.items
  pub gains : Gains old.list.items (net ∷ []) new.list.items

pub added_there : (found : Found) (net : ℕ) → IsFound found → get_or found.marks.items net false ≡ true → IsAdded found found net
added_there found net is marked = record { found = is; marks = refl; gains = gains_there found net is marked }

pub added_new : (old new : Found) (net : ℕ) → IsFound old → net < length old.marks.items → get_or old.marks.items net false ≡ false
    → new.marks.items ≡ set old.marks.items net true → new.list.items ≡ old.list.items ++ net ∷ [] → IsAdded old new net
added_new old new net is within unmarked m l = record {
  found = found_new old new net is within unmarked m l;
  marks = ap length m ∙ length-set old.marks.items net true;
  gains = let P : List ℕ → Type 0 = λ xs. Gains old.list.items (net ∷ []) xs in subst P (sym l) (gains_new old.list.items net);
}
