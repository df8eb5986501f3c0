-- Each move of a link keeps its rule.
use Rattle.std.proofs.Common.{◌≡◌, ◌≢◌, ℕ, zero, suc, ◌+◌, ◌<◌, ◌≤◌, ◌⊎◌, List, [], ◌∷◌, ◌++◌, length, set, inl, inr, ⊎_elim, sym, refl, ap, ◌∙◌, subst, arith, append_assoc, length-append, All, get_or-append-add}
use Rattle.std.proofs.lemmas.List.{append-nil}
use Rattle.std.proofs.lemmas.List.Elements.{All-push, All-head, All-nil}
use mathlib.Core.Option.{some, some-injective, some-ne-none}
use lib.ListN.{get_elem?}
use Rattle.crossbeam_queue.specs.Fifo.{Pushes, Pops, Forks, Merges, Learns}
use Rattle.cmb_wave.specs.Wave.{Piece}
use Rattle.cmb_design_model.specs.Exact.{IsExactIn}
use Rattle.cmb_links.specs.Links.{channel_clock}
use Rattle.cmb_links.specs.Inner.Ends.{fresh, putting, taking, closing, spent, open_ends, joined_ends, IsCarried, HaveNoGap, IsBetween, IsLinked, Sends, Receives, Empties, Leaves}
use Rattle.cmb_links.specs.declared.end.Cargo.{Cargo}
use Rattle.cmb_links.specs.declared.end.End.{End}
use Rattle.cmb_links.specs.declared.end.EndRole.{EndRole}
use Rattle.cmb_links.specs.declared.end.EndRole.TheVariants.{Fresh, Puts, Takes, Closes, Spent}

pub All-behind : {X : Type 0} (P : X → Type 0) (xs ys : List X) → All P (xs ++ ys) → All P ys
All-behind P xs ys a k d in' = subst P (get_or-append-add xs ys k d) (a (length xs + k) d (omega (arith, length-append xs ys)))

-- a piece behind others of which none begins behind its channel's clock
pub no_gap-push : (before pieces : List Piece) (piece : Piece) → HaveNoGap before pieces → piece.from ≤ channel_clock piece.net (before ++ pieces) → HaveNoGap before (pieces ++ piece ∷ [])
no_gap-push before [] piece none joined = (rw append-nil at joined, tt)
no_gap-push before (first ∷ pieces) piece none joined = (none.0, no_gap-push (before ++ first ∷ []) pieces piece none.1 (rw append_assoc joined))

-- a piece behind the first of them, with whatever comes after it
pub no_gap-behind : (before pieces more : List Piece) (piece : Piece) → HaveNoGap before (pieces ++ piece ∷ more) → piece.from ≤ channel_clock piece.net (before ++ pieces)
no_gap-behind before [] more piece none = rw append-nil none.0
no_gap-behind before (first ∷ pieces) more piece none = rw append_assoc at (no_gap-behind (before ++ first ∷ []) pieces more piece none.1)

-- roles that differ
abbrev rank : EndRole → ℕ
rank Fresh = 0
rank Puts = 1
rank Takes = 2
rank Closes = 3
rank Spent = 4

abbrev of_role : End → ℕ
of_role v = rank v.role

-- an end is one of two
one_of_two : (a b v : End) (port : ℕ) → get_elem? (a ∷ b ∷ []) port ≡ some v → ((port ≡ 0) × (a ≡ v)) ⊎ ((port ≡ 1) × (b ≡ v))
one_of_two a b v zero at = inl (refl, some-injective a v at)
one_of_two a b v (suc zero) at = inr (refl, some-injective b v at)
one_of_two a b v (suc (suc port)) at = absurd (some-ne-none v (sym at))

only_one : (a v : End) (port : ℕ) → get_elem? (a ∷ []) port ≡ some v → (port ≡ 0) × (a ≡ v)
only_one a v zero at = (refl, some-injective a v at)
only_one a v (suc port) at = absurd (some-ne-none v (sym at))

-- what is held, the ends, and which of them this one is
abbrev Between : (Cargo → ℕ → List Piece → List Piece → Type 0) → List Piece → Type 0
Between P held = (d : Cargo) × (n : ℕ) × (sent : List Piece) × (received : List Piece) × IsBetween held d n sent received × P d n sent received

module _ (held : List Piece) (ends : List End) (port : ℕ) (v : End) (kept : IsLinked held ends) (at : get_elem? ends port ≡ some v) where
  along : (l : List End) → ends ≡ l → get_elem? l port ≡ some v
  along l e = ap (λ m. get_elem? m port) (sym e) ∙ at

  -- the end is the fresh one, one of two of an open link, or one of two of a joined one
  abbrev Standing : Cargo → ℕ → List Piece → List Piece → Type 0
  Standing d n sent received =
      ((ends ≡ open_ends d n sent received) × (((port ≡ 0) × (putting d n sent ≡ v)) ⊎ ((port ≡ 1) × (taking d n received ≡ v))))
      ⊎ ((ends ≡ joined_ends d n sent received) × (((port ≡ 0) × (closing d n sent received ≡ v)) ⊎ ((port ≡ 1) × (spent ≡ v))))

  stands : ((held ≡ []) × (ends ≡ fresh ∷ []) × (port ≡ 0) × (fresh ≡ v)) ⊎ Between Standing held
  stands = ⊎_elim
      (λ (h : (held ≡ []) × (ends ≡ fresh ∷ [])). let one = only_one fresh v port (along (fresh ∷ []) h.1) in inl (h.0, h.1, one.0, one.1))
      (λ (h : Between (λ d n sent received. (ends ≡ open_ends d n sent received) ⊎ (ends ≡ joined_ends d n sent received)) held).
      let d = h.0 in let n = h.1 in let sent = h.2 in let received = h.3 in
      inr (
        d,
        n,
        sent,
        received,
        h.4,
        ⊎_elim
            (λ (e : ends ≡ open_ends d n sent received). inl (e, one_of_two (putting d n sent) (taking d n received) v port (along (open_ends d n sent received) e)))
            (λ (e : ends ≡ joined_ends d n sent received). inr (e, one_of_two (closing d n sent received) spent v port (along (joined_ends d n sent received) e)))
            h.5,
      ))
      kept

  abbrev IsPutting : Cargo → ℕ → List Piece → List Piece → Type 0
  IsPutting d n sent received = (ends ≡ open_ends d n sent received) × (port ≡ 0) × (putting d n sent ≡ v)

  abbrev IsTaking : Cargo → ℕ → List Piece → List Piece → Type 0
  IsTaking d n sent received = (ends ≡ open_ends d n sent received) × (port ≡ 1) × (taking d n received ≡ v)

  abbrev IsClosing : Cargo → ℕ → List Piece → List Piece → Type 0
  IsClosing d n sent received = (ends ≡ joined_ends d n sent received) × (port ≡ 0) × (closing d n sent received ≡ v)

  -- a case that the role rules out
  other : (u : End) (k m : ℕ) → u ≡ v → of_role u ≡ k → of_role v ≡ m → k ≢ m → ⊥
  other u k m e a b differ = differ (sym a ∙ ap of_role e ∙ b)

  -- what an end is whose role isn't that of a fresh one
  not_fresh : (P : Cargo → ℕ → List Piece → List Piece → Type 0) → (fresh ≡ v → ⊥) → ((d : Cargo) (n : ℕ) (sent received : List Piece) → Standing d n sent received → P d n sent received) → Between P held
  not_fresh P differs is = ⊎_elim (λ h. absurd (differs h.3)) (λ (h : Between Standing held). (h.0, h.1, h.2, h.3, h.4, is h.0 h.1 h.2 h.3 h.5)) stands

  puts : v.role ≡ Puts → Between IsPutting held
  puts role = let r : of_role v ≡ 1 = ap rank role in not_fresh IsPutting (λ e. other fresh 0 1 e refl r (λ e. omega arith)) (λ d n s t. ⊎_elim
      (λ o. ⊎_elim (λ a. (o.0, a.0, a.1)) (λ b. absurd (other (taking d n t) 2 1 b.1 refl r (λ e. omega arith))) o.1)
      (λ j. absurd (⊎_elim (λ a. other (closing d n s t) 3 1 a.1 refl r (λ e. omega arith)) (λ b. other spent 4 1 b.1 refl r (λ e. omega arith)) j.1)))

  takes : v.role ≡ Takes → Between IsTaking held
  takes role = let r : of_role v ≡ 2 = ap rank role in not_fresh IsTaking (λ e. other fresh 0 2 e refl r (λ e. omega arith)) (λ d n s t. ⊎_elim
      (λ o. ⊎_elim (λ a. absurd (other (putting d n s) 1 2 a.1 refl r (λ e. omega arith))) (λ b. (o.0, b.0, b.1)) o.1)
      (λ j. absurd (⊎_elim (λ a. other (closing d n s t) 3 2 a.1 refl r (λ e. omega arith)) (λ b. other spent 4 2 b.1 refl r (λ e. omega arith)) j.1)))

  closes : v.role ≡ Closes → Between IsClosing held
  closes role = let r : of_role v ≡ 3 = ap rank role in not_fresh IsClosing (λ e. other fresh 0 3 e refl r (λ e. omega arith)) (λ d n s t. ⊎_elim
      (λ o. absurd (⊎_elim (λ a. other (putting d n s) 1 3 a.1 refl r (λ e. omega arith)) (λ b. other (taking d n t) 2 3 b.1 refl r (λ e. omega arith)) o.1))
      (λ j. ⊎_elim (λ a. (j.0, a.0, a.1)) (λ b. absurd (other spent 4 3 b.1 refl r (λ e. omega arith))) j.1))

  begins_here : v.role ≡ Fresh → (held ≡ []) × (ends ≡ fresh ∷ []) × (port ≡ 0)
  begins_here role = let r : of_role v ≡ 0 = ap rank role in ⊎_elim
      (λ h. (h.0, h.1, h.2))
      (λ (h : Between Standing held). let d = h.0 in let n = h.1 in let s = h.2 in let t = h.3 in absurd (⊎_elim
      (λ o. ⊎_elim (λ a. other (putting d n s) 1 0 a.1 refl r (λ e. omega arith)) (λ b. other (taking d n t) 2 0 b.1 refl r (λ e. omega arith)) o.1)
      (λ j. ⊎_elim (λ a. other (closing d n s t) 3 0 a.1 refl r (λ e. omega arith)) (λ b. other spent 4 0 b.1 refl r (λ e. omega arith)) j.1)
      h.5))
      stands

pub begins : IsLinked [] (fresh ∷ [])
begins = inl (refl, refl)

-- the fresh end becomes the two ends
pub forks : (port : ℕ) (v : End) (d : Cargo) (n : ℕ) → v ≡ fresh → Forks IsLinked port v (putting d n []) (taking d n [])
forks port v d n is items views kept at =
    let h = begins_here items views port v kept at (ap (λ (u : End). u.role) is) in
    inr (
      d,
      n,
      [],
      [],
      record { order = sym h.0; room = rw h.0 (omega arith); carried = All-nil (IsCarried d); joined = tt },
      inl (λ i. set (h.1 i) (h.2 i) (putting d n []) ++ taking d n [] ∷ []),
    )

pub sends : (n port : ℕ) (v : End) (x : Piece) → v.role ≡ Puts → v.capacity ≡ n → IsCarried v.cargo x → x.from ≤ channel_clock x.net v.sent → Pushes IsLinked n port v x (Sends v x)
sends n port v x role most carried joined items views room kept at =
    let h = puts items views port v kept at role in
    let d = h.0 in let m = h.1 in let sent = h.2 in let link = h.4 in
    let more : List Piece = sent ++ x ∷ [] in
    let cap : m ≡ v.capacity = ap (λ (u : End). u.capacity) h.5.2 in (
      putting d m more,
      inr (
        d,
        m,
        more,
        h.3,
        record {
          order = ap (λ l. l ++ x ∷ []) link.order ∙ append_assoc h.3 items (x ∷ []);
          room = omega (arith, length-append items (x ∷ []));
          carried = All-push (IsCarried d) sent x link.carried (subst (λ (e : Cargo). IsCarried e x) (sym (ap (λ (u : End). u.cargo) h.5.2)) carried);
          joined = no_gap-push [] sent x link.joined (subst (λ (u : End). x.from ≤ channel_clock x.net u.sent) (sym h.5.2) joined);
        },
        inl (λ i. set (h.5.0 i) (h.5.1 i) (putting d m more)),
      ),
      ap (λ (u : End). putting u.cargo u.capacity (u.sent ++ x ∷ [])) h.5.2,
    )

-- the first of what is held
first_carried : (d : Cargo) (n : ℕ) (sent received items : List Piece) (x : Piece) → IsBetween (x ∷ items) d n sent received → IsCarried d x
first_carried d n sent received items x link = All-head (IsCarried d) x items (All-behind (IsCarried d) received (x ∷ items) (subst (All (IsCarried d)) link.order link.carried))

first_joined : (d : Cargo) (n : ℕ) (sent received items : List Piece) (x : Piece) → IsBetween (x ∷ items) d n sent received → x.from ≤ channel_clock x.net received
first_joined d n sent received items x link = no_gap-behind [] received items x (subst (HaveNoGap []) link.order link.joined)

-- it goes over to what was received
goes_over : (d : Cargo) (n : ℕ) (sent received items : List Piece) (x : Piece) → IsBetween (x ∷ items) d n sent received → IsBetween items d n sent (received ++ x ∷ [])
goes_over d n sent received items x link = let r = link.room in record {
  order = link.order ∙ sym (append_assoc received (x ∷ []) items);
  room = omega arith;
  carried = link.carried;
  joined = link.joined;
}

pub gets : (port : ℕ) (v : End) → v.role ≡ Takes → Pops IsLinked port v (Receives v)
gets port v role x items views kept at =
    let h = takes (x ∷ items) views port v kept at role in
    let d = h.0 in let m = h.1 in
    let more : List Piece = h.3 ++ x ∷ [] in (
      taking d m more,
      inr (d, m, h.2, more, goes_over d m h.2 h.3 items x h.4, inl (λ i. set (h.5.0 i) (h.5.1 i) (taking d m more))),
      (
        ap (λ (u : End). taking u.cargo u.capacity (u.received ++ x ∷ [])) h.5.2,
        subst (λ (e : Cargo). IsCarried e x) (ap (λ (u : End). u.cargo) h.5.2) (first_carried d m h.2 h.3 items x h.4),
        subst (λ (u : End). x.from ≤ channel_clock x.net u.received) h.5.2 (first_joined d m h.2 h.3 items x h.4),
      ),
    )

pub empties : (port : ℕ) (v : End) → v.role ≡ Closes → Pops IsLinked port v (Empties v)
empties port v role x items views kept at =
    let h = closes (x ∷ items) views port v kept at role in
    let d = h.0 in let m = h.1 in
    let more : List Piece = h.3 ++ x ∷ [] in
    let order = ap length h.4.order in (
      closing d m h.2 more,
      inr (d, m, h.2, more, goes_over d m h.2 h.3 items x h.4, inr (λ i. set (h.5.0 i) (h.5.1 i) (closing d m h.2 more))),
      (
        ap (λ (u : End). closing u.cargo u.capacity u.sent (u.received ++ x ∷ [])) h.5.2,
        subst (λ (e : Cargo). IsCarried e x) (ap (λ (u : End). u.cargo) h.5.2) (first_carried d m h.2 h.3 items x h.4),
        subst (λ (u : End). length u.received < length u.sent) h.5.2 (omega (arith, length-append h.3 (x ∷ items))),
      ),
    )

-- the end that puts takes in the end that takes
pub merges : (port : ℕ) (v : End) (two : ℕ) (w : End) → v.role ≡ Puts → w.role ≡ Takes → Merges IsLinked port v two w (closing v.cargo v.capacity v.sent w.received) spent
merges port v two w puts_role takes_role items views kept at apart at' =
    let h = puts items views port v kept at puts_role in
    let d = h.0 in let m = h.1 in let sent = h.2 in let received = h.3 in
    let both : End = closing v.cargo v.capacity v.sent w.received in
    let there : (two ≡ 1) × (taking d m received ≡ w) = ⊎_elim
    (λ (e : (two ≡ 0) × (both ≡ w)). absurd (apart (e.0 ∙ sym h.5.1)))
    (λ (e : (two ≡ 1) × (taking d m received ≡ w)). e)
    (one_of_two both (taking d m received) w two (ap (λ l. get_elem? l two) (λ i. set (sym h.5.0 i) (sym h.5.1 i) both) ∙ at')) in
    let is : both ≡ closing d m sent received = λ i. closing (sym h.5.2 i).cargo (sym h.5.2 i).capacity (sym h.5.2 i).sent (sym there.1 i).received in
    inr (d, m, sent, received, h.4, inr (λ i. set (set (h.5.0 i) (h.5.1 i) (is i)) (there.0 i) spent))

pub learns_sent : (port : ℕ) (v : End) → v.role ≡ Puts → Learns IsLinked port v (λ held. length held ≤ length v.sent)
learns_sent port v role items views kept at =
    let h = puts items views port v kept at role in
    let order = ap length h.4.order in
    subst (λ (u : End). length items ≤ length u.sent) h.5.2 (omega (arith, length-append h.3 items))

pub learns_left : (port : ℕ) (v : End) → v.role ≡ Closes → Learns IsLinked port v (Leaves v)
learns_left port v role items views kept at = let h = closes items views port v kept at role in subst (λ (u : End). Leaves u items) h.5.2 (h.4.order, h.4.room)

-- the end that closes a link knows what it has taken, which is exact, with one piece more
pub emptied : (d : Cargo) (n : ℕ) (sent received left more : List Piece) (v w : End) (x : Piece) → v ≡ closing d n sent (received ++ left) → Empties v x w → more ≡ left ++ x ∷ [] → All (IsExactIn d.design) left
    → (w ≡ closing d n sent (received ++ more)) × All (IsExactIn d.design) more
emptied d n sent received left more v w x knows took is exact = (
  took.0 ∙ ap (λ (u : End). closing u.cargo u.capacity u.sent (u.received ++ x ∷ [])) knows ∙ ap (closing d n sent) (append_assoc received left (x ∷ []) ∙ ap (λ l. received ++ l) (sym is)),
  subst (All (IsExactIn d.design)) (sym is) (All-push (IsExactIn d.design) left x exact (subst (λ (u : End). IsExactIn u.cargo.design x) knows took.1.exact)),
)
