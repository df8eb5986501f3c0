-- Each order of events ends: an event raises the sum of all clocks, and none goes beyond the horizon.
use Rattle.std.proofs.Common.{◌≡◌, ℕ, zero, suc, ◌+◌, ◌*◌, ◌<◌, ◌≤◌, ◌⊎◌, inl, inr, List, [], ◌∷◌, cond, length, refl, ap, sym, subst, arith}
use Rattle.std.proofs.lemmas.Bool.{cases_lt, eq-eqb}
use Rattle.cmb_shares_protocol.specs.Network.{Network, IsNetwork, ahead, windows_on}
use Rattle.cmb_shares_protocol.specs.Machine.{Process, Processes, Event, Tell, Take, Advance, doer, CanHappen, gone_on, moved, after}
use Rattle.cmb_shares_protocol.specs.Runs.{start, LeadTo, NotBelow, most_events}
use Rattle.cmb_shares_protocol.proofs.Grid.{IsOnGrid, ahead-later, ahead-within, lookahead-most}
use Rattle.cmb_shares_protocol.proofs.Sound.{IsSound, after-up, after-sound, leads_to-sound, start-sound}

-- ---- sums

pub total : (ℕ → ℕ) → ℕ → ℕ
total f zero = 0
total f (suc n) = total f n + f n

total-up : (f g : ℕ → ℕ) → ((k : ℕ) → f k ≤ g k) → (n : ℕ) → total f n ≤ total g n
unfolding total
total-up f g up zero = omega arith
total-up f g up (suc n) = omega (arith, total-up f g up n, up n)

pub total-more : (f g : ℕ → ℕ) → ((k : ℕ) → f k ≤ g k) → (n j : ℕ) → j < n → f j < g j → total f n < total g n
unfolding total
total-more f g up zero j h more = absurd (omega arith)
total-more f g up (suc n) j h more = by (cases_lt j n) (λ less. total-more f g up n j less more)
  where
    by : (j < n) ⊎ (n ≤ j) → (j < n → total f n < total g n) → total f (suc n) < total g (suc n)
    by (inl less) before = omega (arith, before less, up n)
    by (inr past) before =
        let e : j ≡ n = omega arith in
        omega (arith, total-up f g up n, subst (λ i. f i < g i) e more)

total-most : (f : ℕ → ℕ) (most : ℕ) → ((k : ℕ) → f k ≤ most) → (n : ℕ) → total f n ≤ n * most
unfolding total
total-most f most all zero = omega arith
total-most f most all (suc n) = omega (arith, total-most f most all n, all n)

-- ---- the sum of all clocks

weight : ℕ → Process → ℕ
weight n process = process.clock + total process.sent n + total process.received n

weight-up : (n : ℕ) (before now : Process) → NotBelow before now → weight n before ≤ weight n now
unfolding weight
weight-up n before now up = omega (arith, up.clock, total-up before.sent now.sent up.sent n, total-up before.received now.received up.received n)

module _ (network : Network) (is : IsNetwork network) where
  on-within : (many : ℕ) → windows_on network many network.begin ≤ network.horizon
  on-within zero = is.begins
  on-within (suc many) = ahead-within network is (windows_on network many network.begin) (on-within many)

  grid-within : (tick : ℕ) → IsOnGrid network tick → tick ≤ network.horizon
  grid-within tick on = subst (λ t. t ≤ network.horizon) on.1 (on-within on.0)

  gone_on-more : (at : ℕ) (ticks : ℕ → ℕ) → ticks at < network.horizon → ticks at < gone_on network at ticks at
  gone_on-more at ticks early =
      let e : gone_on network at ticks at ≡ ahead network (ticks at) = ap (λ c. cond c (ahead network (ticks at)) (ticks at)) (eq-eqb at at refl) in
      omega (arith, e, ahead-later network is (ticks at) early)

  -- the process that does an event is one of these, and weighs more after it
  module _ (processes : Processes) (sound : IsSound network processes) where
    up : (event : Event) (number : ℕ) → NotBelow (processes number) (after network processes event number)
    up = after-up network is processes

    doer-within : (event : Event) → CanHappen network processes event → doer event ≤ network.shares
    doer-within (Tell sender reader) can = omega (arith, is.sender sender reader can.0.0)
    doer-within (Take sender reader) can = is.reader sender reader can.0.0
    doer-within (Advance number) can = can.0.0

    after-doer : (event : Event) → after network processes event (doer event) ≡ moved network (processes (doer event)) event
    after-doer event = ap (λ c. cond c (moved network (processes (doer event)) event) (processes (doer event))) (eq-eqb (doer event) (doer event) refl)

    moved-more : (event : Event) → CanHappen network processes event → NotBelow (processes (doer event)) (moved network (processes (doer event)) event)
        → weight (suc network.shares) (processes (doer event)) < weight (suc network.shares) (moved network (processes (doer event)) event)
    unfolding weight
    moved-more (Tell sender reader) can rises =
        let process = processes sender in
        let early : process.sent reader < network.horizon =
        omega (arith, can.0.1, lookahead-most network is process.clock reader, ahead-within network is process.clock (sound.each sender).within) in
        omega (arith, total-more process.sent (gone_on network reader process.sent) rises.sent (suc network.shares) reader (omega (arith, is.reader sender reader can.0.0)) (gone_on-more reader process.sent early))
    moved-more (Take sender reader) can rises =
        let process = processes reader in
        let early : process.received sender < network.horizon =
        omega (arith, can.0.2, ahead-within network is process.clock (sound.each reader).within) in
        omega (arith, total-more process.received (gone_on network sender process.received) rises.received (suc network.shares) sender (omega (arith, is.sender sender reader can.0.0)) (gone_on-more sender process.received early))
    moved-more (Advance number) can rises = omega (arith, ahead-later network is (processes number).clock can.0.1)

    after-more : (event : Event) → CanHappen network processes event
        → total (λ p. weight (suc network.shares) (processes p)) (suc network.shares) < total (λ p. weight (suc network.shares) (after network processes event p)) (suc network.shares)
    after-more event can =
        let n = suc network.shares in
        let d = doer event in
        let rises : NotBelow (processes d) (moved network (processes d) event) = subst (NotBelow (processes d)) (after-doer event) (up event d) in
        total-more (λ p. weight n (processes p)) (λ p. weight n (after network processes event p)) (λ p. weight-up n (processes p) (after network processes event p) (up event p)) n d
        (omega (arith, doer-within event can))
        (subst (λ p. weight n (processes d) < weight n p) (sym (after-doer event)) (moved-more event can rises))

  weigh : Processes → ℕ
  weigh processes = total (λ p. weight (suc network.shares) (processes p)) (suc network.shares)

  leads-length : (before : Processes) (events : List Event) (now : Processes) → LeadTo network before events now → IsSound network before → weigh before + length events ≤ weigh now
  unfolding weigh
  leads-length before [] now same sound = omega (arith, ap weigh same)
  leads-length before (event ∷ events) now leads sound =
      omega (arith, after-more before sound event leads.0, leads-length (after network before event) events now leads.1 (after-sound network is before event leads.0 sound))

  weigh-most : (processes : Processes) → IsSound network processes → weigh processes ≤ most_events network
  unfolding weigh weight
  weigh-most processes sound =
      let n = suc network.shares in
      let h = network.horizon in
      let each : (p : ℕ) → weight n (processes p) ≤ h + n * h + n * h =
      λ p. omega (arith, (sound.each p).within, total-most (processes p).sent h (λ r. grid-within ((processes p).sent r) ((sound.each p).sent r)) n, total-most (processes p).received h (λ s. grid-within ((processes p).received s) ((sound.each p).received s)) n) in
      omega (arith, total-most (λ p. weight n (processes p)) (h + n * h + n * h) each n)

  pub run-length : (processes : Processes) (events : List Event) → LeadTo network (start network) events processes → length events ≤ most_events network
  run-length processes events leads =
      let begun = start-sound network is in
      omega (arith, leads-length (start network) events processes leads begun, weigh-most processes (leads_to-sound network is (start network) events processes leads begun))
