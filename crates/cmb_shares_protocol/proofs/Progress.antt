-- There is no deadlock, and all orders of events end alike.
use Rattle.std.proofs.Common.{◌≡◌, ℕ, zero, suc, ◌<◌, ◌≤◌, ◌⊎◌, inl, inr, true, false, refl, sym, ◌∙◌, subst, arith}
use Rattle.std.proofs.lemmas.Bool.{cases_Bool, cases_lt, both_ways}
use Rattle.cmb_shares_protocol.specs.Network.{Network, IsNetwork, ahead, lookahead}
use Rattle.cmb_shares_protocol.specs.Machine.{Processes, Event, Tell, Take, Advance, doer, IsDue, IsLet, HasTold, HasTaken}
use Rattle.cmb_shares_protocol.specs.Runs.{IsComplete, IsEnd, CanGoOn, AreAlike}
use Rattle.cmb_shares_protocol.proofs.Grid.{IsOnGrid, ahead-past, ahead-within, room-ahead, gap, within_window, lookahead-share, lookahead-text, lookahead-most}
use Rattle.cmb_shares_protocol.proofs.Sound.{IsSoundBetween, IsSound}

-- ---- numbers below another one

below_suc : (n k : ℕ) → k < suc n → (k ≡ n) ⊎ (k < n)
below_suc n k h = by (cases_lt k n)
  where
    by : (k < n) ⊎ (n ≤ k) → (k ≡ n) ⊎ (k < n)
    by (inl l) = inr l
    by (inr g) = inl (omega arith)

-- one of them has the one thing, or all have the other
search-below : (P Q : ℕ → Type 0) → ((k : ℕ) → P k ⊎ Q k) → (n : ℕ) → ((k : ℕ) × (k < n) × P k) ⊎ ((k : ℕ) → k < n → Q k)
search-below P Q decide zero = inr (λ k h. absurd (omega arith))
search-below P Q decide (suc n) = by (search-below P Q decide n) (decide n)
  where
    by : ((k : ℕ) × (k < n) × P k) ⊎ ((k : ℕ) → k < n → Q k) → P n ⊎ Q n → ((k : ℕ) × (k < suc n) × P k) ⊎ ((k : ℕ) → k < suc n → Q k)
    by (inl found) last = inl (found.0, omega (arith, found.1), found.2)
    by (inr all) (inl last) = inl (n, omega arith, last)
    by (inr all) (inr last) = inr (λ k h. at k (below_suc n k h))
      where
        at : (k : ℕ) → (k ≡ n) ⊎ (k < n) → Q k
        at k (inl e) = subst Q (sym e) last
        at k (inr less) = all k less

-- one of them has the least
least : (f : ℕ → ℕ) (n : ℕ) → (k : ℕ) × (k ≤ n) × ((j : ℕ) → j ≤ n → f k ≤ f j)
least f zero = (0, omega arith, λ j h. let e : j ≡ 0 = omega arith in subst (λ i. f 0 ≤ f i) (sym e) (omega arith))
least f (suc n) = by (least f n)
  where
    by : (k : ℕ) × (k ≤ n) × ((j : ℕ) → j ≤ n → f k ≤ f j) → (k : ℕ) × (k ≤ suc n) × ((j : ℕ) → j ≤ suc n → f k ≤ f j)
    by (k, within, all) = at (cases_lt (f (suc n)) (f k))
      where
        at : (f (suc n) < f k) ⊎ (f k ≤ f (suc n)) → (k : ℕ) × (k ≤ suc n) × ((j : ℕ) → j ≤ suc n → f k ≤ f j)
        at (inl less) = (suc n, omega arith, λ j h. each j (below_suc (suc n) j (omega arith)))
          where
            each : (j : ℕ) → (j ≡ suc n) ⊎ (j < suc n) → f (suc n) ≤ f j
            each j (inl e) = subst (λ i. f (suc n) ≤ f i) (sym e) (omega arith)
            each j (inr h) = omega (arith, less, all j (omega arith))
        at (inr more) = (k, omega arith, λ j h. each j (below_suc (suc n) j (omega arith)))
          where
            each : (j : ℕ) → (j ≡ suc n) ⊎ (j < suc n) → f k ≤ f j
            each j (inl e) = subst (λ i. f k ≤ f i) (sym e) more
            each j (inr h) = all j (omega arith)

-- ---- whose turn it is

module _ (network : Network) (is : IsNetwork network) (processes : Processes) where
  abbrev OwesTell : ℕ → ℕ → Type 0
  OwesTell number reader =
      (network.leads number reader ≡ true) × ((processes number).sent reader < lookahead network (processes number).clock reader)

  abbrev OwesTake : ℕ → ℕ → Type 0
  OwesTake number sender =
      (network.leads sender number ≡ true) × ((processes number).received sender < ahead network (processes number).clock)

  told-or : (number : ℕ) → ((reader : ℕ) × OwesTell number reader) ⊎ HasTold network number (processes number)
  told-or number = by (search-below (OwesTell number) Told decide (suc network.shares))
    where
      Told : ℕ → Type 0
      Told reader = network.leads number reader ≡ true → lookahead network (processes number).clock reader ≤ (processes number).sent reader

      decide : (reader : ℕ) → OwesTell number reader ⊎ Told reader
      decide reader = one (cases_Bool (network.leads number reader)) (cases_lt ((processes number).sent reader) (lookahead network (processes number).clock reader))
        where
          one : (network.leads number reader ≡ true) ⊎ (network.leads number reader ≡ false)
              → ((processes number).sent reader < lookahead network (processes number).clock reader) ⊎ (lookahead network (processes number).clock reader ≤ (processes number).sent reader) → OwesTell number reader ⊎ Told reader
          one (inl there) (inl less) = inl (there, less)
          one (inl there) (inr most) = inr (λ leads. most)
          one (inr none) _ = inr (λ leads. absurd (both_ways (network.leads number reader) none leads))

      by : ((k : ℕ) × (k < suc network.shares) × OwesTell number k) ⊎ ((k : ℕ) → k < suc network.shares → Told k) → ((reader : ℕ) × OwesTell number reader) ⊎ HasTold network number (processes number)
      by (inl found) = inl (found.0, found.2)
      by (inr all) = inr (λ reader leads. all reader (omega (arith, is.reader number reader leads)) leads)

  taken-or : (number : ℕ) → ((sender : ℕ) × OwesTake number sender) ⊎ HasTaken network number (processes number)
  taken-or number = by (search-below (OwesTake number) Taken decide network.shares)
    where
      Taken : ℕ → Type 0
      Taken sender = network.leads sender number ≡ true → ahead network (processes number).clock ≤ (processes number).received sender

      decide : (sender : ℕ) → OwesTake number sender ⊎ Taken sender
      decide sender = one (cases_Bool (network.leads sender number)) (cases_lt ((processes number).received sender) (ahead network (processes number).clock))
        where
          one : (network.leads sender number ≡ true) ⊎ (network.leads sender number ≡ false)
              → ((processes number).received sender < ahead network (processes number).clock) ⊎ (ahead network (processes number).clock ≤ (processes number).received sender) → OwesTake number sender ⊎ Taken sender
          one (inl there) (inl less) = inl (there, less)
          one (inl there) (inr most) = inr (λ leads. most)
          one (inr none) _ = inr (λ leads. absurd (both_ways (network.leads sender number) none leads))

      by : ((k : ℕ) × (k < network.shares) × OwesTake number k) ⊎ ((k : ℕ) → k < network.shares → Taken k) → ((sender : ℕ) × OwesTake number sender) ⊎ HasTaken network number (processes number)
      by (inl found) = inl (found.0, found.2)
      by (inr all) = inr (λ sender leads. all sender (is.sender sender number leads) leads)

  -- what is due of a process that told all
  pub due-told : (number : ℕ) → number ≤ network.shares → (processes number).clock < network.horizon → HasTold network number (processes number) → (event : Event) × (doer event ≡ number) × IsDue network (processes number) event
  due-told number there early told = by (taken-or number)
    where
      by : ((sender : ℕ) × OwesTake number sender) ⊎ HasTaken network number (processes number) → (event : Event) × (doer event ≡ number) × IsDue network (processes number) event
      by (inl owes) = (Take owes.0 number, refl, (owes.1.0, told, owes.1.1))
      by (inr taken) = (Advance number, refl, (there, early, told, taken))

-- ---- some process goes on

module _ (network : Network) (is : IsNetwork network) (processes : Processes) (sound : IsSound network processes) where
  abbrev clock : ℕ → ℕ
  clock number = (processes number).clock

  abbrev sent : ℕ → ℕ → ℕ
  sent sender reader = (processes sender).sent reader

  abbrev received : ℕ → ℕ → ℕ
  received sender reader = (processes reader).received sender

  -- a channel that has no message has room for one
  has_room : (sender reader : ℕ) → network.leads sender reader ≡ true → sent sender reader < lookahead network (clock sender) reader → sent sender reader ≤ received sender reader → IsLet network processes (Tell sender reader)
  has_room sender reader leads due empty =
      let was = sound.channels sender reader leads in
      let most = lookahead-most network is (clock sender) reader in
      let within = ahead-within network is (clock sender) (sound.each sender).within in
      omega (arith, empty, was.taken, room-ahead network is (received sender reader) (network.room sender reader) (is.room sender reader leads) (omega (arith, was.taken, due, most, within)))

  -- it hasn't told all, and each channel on which it doesn't is empty
  tells-on : (number reader : ℕ) → OwesTell network is processes number reader → ((other : ℕ) → OwesTell network is processes number other → sent number other ≤ received number other) → CanGoOn network processes number
  tells-on number reader owes empty = record { event = Tell number reader; own = refl; due = owes; free = free }
    where
      free : (other : Event) → doer other ≡ number → IsDue network (processes number) other → IsLet network processes other
      free (Tell s r) e due =
          let due' : OwesTell network is processes number r = subst (λ n. (network.leads n r ≡ true) × ((processes number).sent r < lookahead network (processes number).clock r)) e due in
          subst (λ n. IsLet network processes (Tell n r)) (sym e) (has_room number r due'.0 due'.1 (empty r due'))
      free (Take s r) e due = absurd (omega (arith, owes.1, due.1 reader (subst (λ n. network.leads n reader ≡ true) (sym e) owes.0)))
      free (Advance n) e due = tt

  -- it told all, and on each channel on which it takes there is a message
  takes-on : (number : ℕ) → number ≤ network.shares → clock number < network.horizon → HasTold network number (processes number)
      → ((sender : ℕ) → OwesTake network is processes number sender → received sender number < sent sender number) → CanGoOn network processes number
  takes-on number there early told message = record { event = due.0; own = due.1; due = due.2; free = free }
    where
      due : (event : Event) × (doer event ≡ number) × IsDue network (processes number) event
      due = due-told network is processes number there early told

      free : (other : Event) → doer other ≡ number → IsDue network (processes number) other → IsLet network processes other
      free (Tell s r) e due' = absurd (omega (arith, due'.1, told r (subst (λ n. network.leads n r ≡ true) e due'.0)))
      free (Take s r) e due' =
          let owes : OwesTake network is processes number s = (subst (λ n. network.leads s n ≡ true) e due'.0, due'.2) in
          subst (λ n. IsLet network processes (Take s n)) (sym e) (message s owes)
      free (Advance n) e due' = tt

  -- one of those that are the least far
  module _ (first : ℕ) (there : first ≤ network.shares) (all : (j : ℕ) → j ≤ network.shares → clock first ≤ clock j) (early : clock first < network.horizon) where
    abbrev now : ℕ
    now = clock first

    on-now : IsOnGrid network now
    on-now = (sound.each first).clock

    -- one of these shares hasn't told all
    a-share-tells : (share : ℕ) → share < network.shares → clock share ≤ now → (reader : ℕ) → OwesTell network is processes share reader → CanGoOn network processes share
    a-share-tells share inside behind reader owes = tells-on share reader owes empty
      where
        empty : (other : ℕ) → OwesTell network is processes share other → sent share other ≤ received share other
        empty other owes' =
            let was = sound.channels share other owes'.0 in
            let most = lookahead-most network is (clock share) other in
            let low : sent share other ≤ clock share =
            within_window network is (sent share other) (clock share) ((sound.each share).sent other) (sound.each share).clock (omega (arith, owes'.1, most)) in
            omega (arith, low, behind, all other (is.reader share other owes'.0), was.heard)

    -- all of these shares told all, and one of them goes on
    a-share-takes : ((share : ℕ) → share < network.shares → clock share ≤ now → HasTold network share (processes share)) → (share : ℕ) → share < network.shares → clock share ≤ now → CanGoOn network processes share
    a-share-takes told share inside behind = takes-on share (omega arith) (omega (arith, behind, early)) (told share inside behind) message
      where
        message : (sender : ℕ) → OwesTake network is processes share sender → received sender share < sent sender share
        message sender owes = by (cases_lt now (clock sender))
          where
            inside' : sender < network.shares
            inside' = is.sender sender share owes.0

            same : clock share ≡ now
            same = omega (arith, behind, all share (omega arith))

            soon : received sender share < ahead network now
            soon = subst (λ t. received sender share < ahead network t) same owes.1

            by : (now < clock sender) ⊎ (clock sender ≤ now) → received sender share < sent sender share
            by (inl later) =
                omega (arith, soon, gap network is now (clock sender) on-now (sound.each sender).clock later, (sound.channels sender share owes.0).told inside)
            by (inr least') =
                let same' : clock sender ≡ now = omega (arith, least', all sender (omega (arith, inside'))) in
                omega (arith, soon, subst (λ t. lookahead network t share ≤ sent sender share) same' (told sender inside' least' share owes.0), lookahead-share network now share inside)

    -- all shares are further than the text
    module _ (text : first ≡ network.shares) (further : (share : ℕ) → share < network.shares → now < clock share) where
      -- one of them didn't tell the text what it made
      a-share-tells-text : (share : ℕ) → OwesTake network is processes first share → sent share first ≤ received share first → CanGoOn network processes share
      a-share-tells-text share owes none = tells-on share first owes' empty
        where
          inside : share < network.shares
          inside = is.sender share first owes.0

          was : IsSoundBetween network processes share first
          was = sound.channels share first owes.0

          late : network.shares ≤ first
          late = omega (arith, text)

          low : received share first ≤ now
          low = within_window network is (received share first) now ((sound.each first).received share) on-now owes.1

          at : sent share first ≡ now
          at = omega (arith, none, low, was.taken, was.heard)

          owes' : OwesTell network is processes share first
          owes' = (owes.0, omega (arith, at, further share inside, lookahead-text network (clock share) first late))

          soon : clock share ≤ ahead network now
          soon = subst (λ t. clock share ≤ ahead network t) at (was.text late)

          empty : (other : ℕ) → OwesTell network is processes share other → sent share other ≤ received share other
          empty other owes'' = by (cases_lt other network.shares)
            where
              between : IsSoundBetween network processes share other
              between = sound.channels share other owes''.0

              by : (other < network.shares) ⊎ (network.shares ≤ other) → sent share other ≤ received share other
              by (inl share') =
                  let behind : sent share other ≤ clock share =
                  within_window network is (sent share other) (clock share) ((sound.each share).sent other) (sound.each share).clock (omega (arith, owes''.1, lookahead-share network (clock share) other share')) in
                  omega (arith, behind, soon, gap network is now (clock other) on-now (sound.each other).clock (further other share'), between.heard)
              by (inr text') =
                  let behind : sent share other ≤ now =
                  within_window network is (sent share other) now ((sound.each share).sent other) on-now (omega (arith, owes''.1, soon, lookahead-text network (clock share) other text')) in
                  omega (arith, behind, all other (is.reader share other owes''.0), between.heard)

      text-goes-on : (number : ℕ) × (number ≤ network.shares) × CanGoOn network processes number
      text-goes-on = by (search-below Waits Has decide network.shares)
        where
          Waits : ℕ → Type 0
          Waits share = OwesTake network is processes first share × (sent share first ≤ received share first)

          Has : ℕ → Type 0
          Has share = OwesTake network is processes first share → received share first < sent share first

          decide : (share : ℕ) → Waits share ⊎ Has share
          decide share = one (cases_Bool (network.leads share first)) (cases_lt (received share first) (ahead network now)) (cases_lt (received share first) (sent share first))
            where
              one : (network.leads share first ≡ true) ⊎ (network.leads share first ≡ false) → (received share first < ahead network now) ⊎ (ahead network now ≤ received share first)
                  → (received share first < sent share first) ⊎ (sent share first ≤ received share first) → Waits share ⊎ Has share
              one _ _ (inl has) = inr (λ owes. has)
              one (inl leads) (inl soon) (inr none) = inl ((leads, soon), none)
              one (inl leads) (inr done) (inr none) = inr (λ owes. absurd (omega (arith, done, owes.1)))
              one (inr not) _ (inr none) = inr (λ owes. absurd (both_ways (network.leads share first) not owes.0))

          by : ((k : ℕ) × (k < network.shares) × Waits k) ⊎ ((k : ℕ) → k < network.shares → Has k) → (number : ℕ) × (number ≤ network.shares) × CanGoOn network processes number
          by (inl found) = (found.0, omega (arith, found.1), a-share-tells-text found.0 found.2.0 found.2.1)
          by (inr all') = (
            first,
            there,
            takes-on first there early (λ reader leads. absurd (omega (arith, text, is.sender first reader leads)))
                (λ sender owes. all' sender (is.sender sender first owes.0) owes),
          )

    someone : (number : ℕ) × (number ≤ network.shares) × CanGoOn network processes number
    someone = by (search-below Owes Told decide network.shares)
      where
        Owes : ℕ → Type 0
        Owes share = (clock share ≤ now) × ((reader : ℕ) × OwesTell network is processes share reader)

        Told : ℕ → Type 0
        Told share = clock share ≤ now → HasTold network share (processes share)

        decide : (share : ℕ) → Owes share ⊎ Told share
        decide share = one (cases_lt now (clock share)) (told-or network is processes share)
          where
            one : (now < clock share) ⊎ (clock share ≤ now) → ((reader : ℕ) × OwesTell network is processes share reader) ⊎ HasTold network share (processes share) → Owes share ⊎ Told share
            one (inl later) _ = inr (λ behind. absurd (omega arith))
            one (inr behind) (inl owes) = inl (behind, owes)
            one (inr behind) (inr told) = inr (λ _. told)

        least-or : (share : ℕ) → (clock share ≤ now) ⊎ (now < clock share)
        least-or share = swap (cases_lt now (clock share))
          where
            swap : (now < clock share) ⊎ (clock share ≤ now) → (clock share ≤ now) ⊎ (now < clock share)
            swap (inl a) = inr a
            swap (inr b) = inl b

        later : ((share : ℕ) → share < network.shares → Told share) → ((k : ℕ) × (k < network.shares) × (clock k ≤ now)) ⊎ ((k : ℕ) → k < network.shares → now < clock k) → (number : ℕ) × (number ≤ network.shares) × CanGoOn network processes number
        later told (inl found) = (found.0, omega (arith, found.1), a-share-takes told found.0 found.1 found.2)
        later told (inr further) = text-goes-on (at (cases_lt first network.shares)) further
          where
            at : (first < network.shares) ⊎ (network.shares ≤ first) → first ≡ network.shares
            at (inl inside) = absurd (omega (arith, further first inside))
            at (inr outside) = omega arith

        by : ((k : ℕ) × (k < network.shares) × Owes k) ⊎ ((k : ℕ) → k < network.shares → Told k) → (number : ℕ) × (number ≤ network.shares) × CanGoOn network processes number
        by (inl found) = (found.0, omega (arith, found.1), a-share-tells found.0 found.1 found.2.0 found.2.1.0 found.2.1.1)
        by (inr told) = later told (search-below (λ k. clock k ≤ now) (λ k. now < clock k) least-or network.shares)

  pub goes-on : IsComplete network processes ⊎ ((number : ℕ) × (number ≤ network.shares) × CanGoOn network processes number)
  goes-on = by (least clock network.shares)
    where
      by : (k : ℕ) × (k ≤ network.shares) × ((j : ℕ) → j ≤ network.shares → clock k ≤ clock j) → IsComplete network processes ⊎ ((number : ℕ) × (number ≤ network.shares) × CanGoOn network processes number)
      by (first, there, all) = at (cases_lt (clock first) network.horizon)
        where
          at : (clock first < network.horizon) ⊎ (network.horizon ≤ clock first) → IsComplete network processes ⊎ ((number : ℕ) × (number ≤ network.shares) × CanGoOn network processes number)
          at (inl early) = inr (someone first there all early)
          at (inr late) = inl (λ number h. omega (arith, late, all number h, (sound.each number).within))

  -- ---- the end

  pub end-complete : IsEnd network processes → IsComplete network processes
  end-complete end = by goes-on
    where
      by : IsComplete network processes ⊎ ((number : ℕ) × (number ≤ network.shares) × CanGoOn network processes number) → IsComplete network processes
      by (inl complete) = complete
      by (inr found) =
          let on = found.2 in
          absurd (end on.event (subst (λ n. IsDue network (processes n) on.event) (sym on.own) on.due, on.free on.event on.own on.due))

  -- all is told and taken where all is made
  pub complete-channel : IsComplete network processes → (sender reader : ℕ) → network.leads sender reader ≡ true → (sent sender reader ≡ network.horizon) × (received sender reader ≡ network.horizon)
  complete-channel complete sender reader leads =
      let was = sound.channels sender reader leads in
      let inside = is.sender sender reader leads in
      let far : clock reader ≡ network.horizon = complete reader (is.reader sender reader leads) in
      let near : clock sender ≡ network.horizon = complete sender (omega arith) in
      let most = lookahead-most network is (clock sender) reader in
      let past = ahead-past network (clock sender) (omega (arith, near)) in
      (omega (arith, was.heard, was.taken, was.told_soon, most, past, far, near), omega (arith, was.heard, was.taken, was.told_soon, most, past, far, near))

pub complete-alike : (network : Network) → IsNetwork network → (one other : Processes) → IsSound network one → IsSound network other → IsComplete network one → IsComplete network other → AreAlike network one other
complete-alike network is one other sound sound' complete complete' = record {
  clock = λ number h. complete number h ∙ sym (complete' number h);
  sent = λ sender reader leads. (complete-channel network is one sound complete sender reader leads).0 ∙ sym (complete-channel network is other sound' complete' sender reader leads).0;
  received = λ sender reader leads. (complete-channel network is one sound complete sender reader leads).1 ∙ sym (complete-channel network is other sound' complete' sender reader leads).1;
}
