-- What each process does by itself joins into one order of events.
use Rattle.std.proofs.Common.{◌≡◌, ℕ, zero, suc, ◌<◌, ◌≤◌, ◌⊎◌, inl, inr, true, List, [], ◌∷◌, cond, length, refl, ap, sym, ◌∙◌, subst, arith, eqb}
use Rattle.std.proofs.lemmas.Bool.{cases_eq, cases_lt, eq-eqb, ne_eqb}
use Rattle.cmb_shares_protocol.specs.Network.{Network, IsNetwork, lookahead, windows_on}
use Rattle.cmb_shares_protocol.specs.Machine.{Process, Processes, Event, Tell, Take, Advance, doer, IsDue, IsLet, CanHappen, moved, after}
use Rattle.cmb_shares_protocol.specs.Runs.{start, LeadTo, IsComplete, CanGoOn}
use Rattle.cmb_shares_protocol.specs.Turns.{GoesBy, HasWindows, IsAt, IsOver, own, turn, turned, turns}
use Rattle.cmb_shares_protocol.proofs.Grid.{ahead-later, ahead-past, lookahead-most, lookahead-share, lookahead-text}
use Rattle.cmb_shares_protocol.proofs.Lengths.{total, total-more}
use Rattle.cmb_shares_protocol.proofs.Progress.{complete-channel, goes-on}
use Rattle.cmb_shares_protocol.proofs.Sound.{IsSound, after-sound, start-sound}
use Rattle.cmb_shares_protocol.proofs.TurnFacts.{leads-append, turn-at, turn-leads}

module _ (network : Network) (is : IsNetwork network) (ends : Processes) (over : (number : ℕ) → number ≤ network.shares → IsOver network number (ends number)) where
  -- what is left to do of each process
  abbrev AreLeft : Processes → (ℕ → List Event) → Type 0
  AreLeft processes rest = (number : ℕ) → number ≤ network.shares → GoesBy network number (processes number) (rest number) (ends number)

  abbrev Joins : Processes → (ℕ → List Event) → Type 0
  Joins processes rest =
      (events : List Event) × (now : Processes) × LeadTo network processes events now × ((number : ℕ) → number ≤ network.shares → own number events ≡ rest number)

  -- where all is done nothing is due
  complete-over : (processes : Processes) → IsSound network processes → IsComplete network processes → (number : ℕ) → number ≤ network.shares → IsOver network number (processes number)
  complete-over processes sound complete number there (Tell sender reader) is-own due =
      let leads = subst (λ n. network.leads n reader ≡ true) is-own due.0 in
      let channel = complete-channel network is processes sound complete number reader leads in
      let clock = complete number there in
      omega (arith, due.1, channel.0, clock, lookahead-most network is (processes number).clock reader, ahead-past network (processes number).clock (omega (arith, clock)))
  complete-over processes sound complete number there (Take sender reader) is-own due =
      let leads = subst (λ n. network.leads sender n ≡ true) is-own due.0 in
      let channel = complete-channel network is processes sound complete sender number leads in
      let clock = complete number there in
      omega (arith, due.2, channel.1, clock, ahead-past network (processes number).clock (omega (arith, clock)))
  complete-over processes sound complete number there (Advance n) is-own due = omega (arith, due.1, complete number there)

  nothing-left : (processes : Processes) (number : ℕ) (left : List Event) → GoesBy network number (processes number) left (ends number) → IsOver network number (processes number) → [] ≡ left
  nothing-left processes number [] goes none = refl
  nothing-left processes number (event ∷ left) goes none = absurd (none event goes.0 goes.1)

  -- the next event of a process that goes on comes first
  module _ (processes : Processes) (rest : ℕ → List Event) (sound : IsSound network processes) (left : AreLeft processes rest) where
    abbrev weighed : (ℕ → List Event) → ℕ
    weighed lists = total (λ number. length (lists number)) (suc network.shares)

    module _ (number : ℕ) (there : number ≤ network.shares) (event : Event) (events : List Event) (first : rest number ≡ event ∷ events) (is-own : doer event ≡ number)
        (due : IsDue network (processes number) event) (goes : GoesBy network number (moved network (processes number) event) events (ends number)) (free : IsLet network processes event) where
      abbrev next : Processes
      next = after network processes event

      abbrev later : ℕ → List Event
      later other = cond (eqb other number) events (rest other)

      happens : CanHappen network processes event
      happens = (subst (λ n. IsDue network (processes n) event) (sym is-own) due, free)

      next-own : next number ≡ moved network (processes number) event
      next-own = ap (λ b. cond b (moved network (processes number) event) (processes number)) (eq-eqb number (doer event) (sym is-own))

      next-other : (other : ℕ) → (other ≡ number → ⊥) → next other ≡ processes other
      next-other other n = ap (λ b. cond b (moved network (processes other) event) (processes other)) (ne_eqb other (doer event) (λ e. n (e ∙ is-own)))

      later-own : later number ≡ events
      later-own = ap (λ b. cond b events (rest number)) (eq-eqb number number refl)

      later-other : (other : ℕ) → (other ≡ number → ⊥) → later other ≡ rest other
      later-other other n = ap (λ b. cond b events (rest other)) (ne_eqb other number n)

      left-later : AreLeft next later
      left-later other inside = by (cases_eq other number)
        where
          by : (other ≡ number) ⊎ (other ≡ number → ⊥) → GoesBy network other (next other) (later other) (ends other)
          by (inl e) =
              subst (λ n. GoesBy network n (next n) (later n) (ends n)) (sym e)
              (subst (λ p. GoesBy network number p (later number) (ends number)) (sym next-own) (subst (λ l. GoesBy network number (moved network (processes number) event) l (ends number)) (sym later-own) goes))
          by (inr n) =
              subst (λ p. GoesBy network other p (later other) (ends other)) (sym (next-other other n)) (subst (λ l. GoesBy network other (processes other) l (ends other)) (sym (later-other other n)) (left other inside))

      less : weighed later < weighed rest
      less = total-more (λ other. length (later other)) (λ other. length (rest other)) (λ other. up other (cases_eq other number)) (suc network.shares) number (omega (arith, there)) (omega (arith, ap length later-own, ap length first))
        where
          up : (other : ℕ) → (other ≡ number) ⊎ (other ≡ number → ⊥) → length (later other) ≤ length (rest other)
          up other (inl e) = subst (λ n. length (later n) ≤ length (rest n)) (sym e) (omega (arith, ap length later-own, ap length first))
          up other (inr n) = omega (arith, ap length (later-other other n))

      joined : Joins next later → Joins processes rest
      joined (all, now, leads, owns) = (event ∷ all, now, (happens, leads), λ other inside. by other inside (cases_eq other number))
        where
          by : (other : ℕ) → other ≤ network.shares → (other ≡ number) ⊎ (other ≡ number → ⊥) → own other (event ∷ all) ≡ rest other
          by other inside (inl e) =
              ap (λ b. cond b (event ∷ own other all) (own other all)) (eq-eqb (doer event) other (is-own ∙ sym e))
              ∙ ap (λ (l : List Event). event ∷ l) (owns other inside ∙ ap later e ∙ later-own) ∙ sym first ∙ ap rest (sym e)
          by other inside (inr n) =
              ap (λ b. cond b (event ∷ own other all) (own other all)) (ne_eqb (doer event) other (λ e. n (sym e ∙ is-own))) ∙ owns other inside ∙ later-other other n

    join-step : ((next : Processes) (later : ℕ → List Event) → IsSound network next → AreLeft next later → weighed later < weighed rest → Joins next later) → Joins processes rest
    join-step more = by (goes-on network is processes sound)
      where
        at : (number : ℕ) → number ≤ network.shares → CanGoOn network processes number → (list : List Event) → rest number ≡ list → GoesBy network number (processes number) list (ends number) → Joins processes rest
        at number there can [] e same = absurd (over number there can.event can.own (subst (λ p. IsDue network p can.event) same can.due))
        at number there can (event ∷ events) e goes =
            let free = can.free event goes.0 goes.1 in
            joined number there event events e goes.0 goes.1 goes.2 free
            (more (after network processes event) (later number there event events e goes.0 goes.1 goes.2 free) (after-sound network is processes event (happens number there event events e goes.0 goes.1 goes.2 free) sound)
            (left-later number there event events e goes.0 goes.1 goes.2 free) (less number there event events e goes.0 goes.1 goes.2 free))

        by : IsComplete network processes ⊎ ((number : ℕ) × (number ≤ network.shares) × CanGoOn network processes number) → Joins processes rest
        by (inl complete) =
            ([], processes, refl, λ number there. nothing-left processes number (rest number) (left number there) (complete-over processes sound complete number there))
        by (inr (number, there, can)) = at number there can (rest number) refl (left number there)

  joins-within : (fuel : ℕ) (processes : Processes) (rest : ℕ → List Event) → IsSound network processes → AreLeft processes rest → total (λ number. length (rest number)) (suc network.shares) ≤ fuel → Joins processes rest
  joins-within zero processes rest sound left h = join-step processes rest sound left (λ next later sound' left' less'. absurd (omega (arith, h, less')))
  joins-within (suc fuel) processes rest sound left h =
      join-step processes rest sound left (λ next later sound' left' less'. joins-within fuel next later sound' left' (omega (arith, h, less')))

pub histories-join : (network : Network) → IsNetwork network → (histories : ℕ → List Event) (ends : Processes)
    → ((number : ℕ) → number ≤ network.shares → GoesBy network number (start network number) (histories number) (ends number) × IsOver network number (ends number))
    → (events : List Event) × (now : Processes) × LeadTo network (start network) events now × ((number : ℕ) → number ≤ network.shares → own number events ≡ histories number)
histories-join network is histories ends are =
    joins-within network is ends (λ number there. (are number there).1) (total (λ number. length (histories number)) (suc network.shares)) (start network) histories (start-sound network is) (λ number there. (are number there).0) (omega arith)

-- ---- turns

-- at the horizon nothing is due
at-over : (network : Network) (number : ℕ) (process : Process) → IsAt network number network.horizon process → IsOver network number process
at-over network number process at (Tell sender reader) is-own due =
    let leads = subst (λ n. network.leads n reader ≡ true) is-own due.0 in
    lookahead-over (cases_lt reader network.shares) (at.sent reader leads) due.1
  where
    lookahead-over : (reader < network.shares) ⊎ (network.shares ≤ reader) → process.sent reader ≡ network.horizon → process.sent reader < lookahead network process.clock reader → ⊥
    lookahead-over (inl share) sent less = omega (arith, sent, less, at.clock, lookahead-share network process.clock reader share, ahead-past network process.clock (omega (arith, at.clock)))
    lookahead-over (inr text) sent less = omega (arith, sent, less, at.clock, lookahead-text network process.clock reader text)
at-over network number process at (Take sender reader) is-own due =
    let leads = subst (λ n. network.leads sender n ≡ true) is-own due.0 in
    omega (arith, at.received sender leads, due.2, at.clock, ahead-past network process.clock (omega (arith, at.clock)))
at-over network number process at (Advance n) is-own due = omega (arith, due.1, at.clock)

after_turns : Network → ℕ → ℕ → Process
after_turns network number zero = start network number
after_turns network number (suc many) = turned network number (after_turns network number many)

module _ (network : Network) (is : IsNetwork network) (number : ℕ) (there : number ≤ network.shares) where
  turns-at : (many : ℕ) → IsAt network number (windows_on network many network.begin) (after_turns network number many)
  unfolding after_turns
  turns-at zero = record { clock = refl; sent = λ reader leads. refl; received = λ sender leads. refl }
  turns-at (suc many) = turn-at network number (windows_on network many network.begin) (after_turns network number many) (turns-at many)

  turns-lead : (many : ℕ) → ((few : ℕ) → few < many → windows_on network few network.begin < network.horizon) → GoesBy network number (start network number) (turns network number many) (after_turns network number many)
  unfolding after_turns
  turns-lead zero early = refl
  turns-lead (suc many) early =
      let tick : ℕ = windows_on network many network.begin in
      let here : tick < network.horizon = early many (omega arith) in
      leads-append network number (start network number) (turns network number many) (after_turns network number many) (turn network number) (turned network number (after_turns network number many)) (turns-lead many (λ few h. early few (omega (arith, h))))
      (turn-leads network number tick (after_turns network number many) (turns-at many) there here (ahead-later network is tick here) (is.reader number) (λ sender. is.sender sender number))

pub turns-join : (network : Network) (many : ℕ) → IsNetwork network → HasWindows network many
    → (events : List Event) × (now : Processes) × LeadTo network (start network) events now × ((number : ℕ) → number ≤ network.shares → own number events ≡ turns network number many)
turns-join network many is has =
    histories-join network is (λ number. turns network number many) (λ number. after_turns network number many) (λ number there. (
      turns-lead network is number there many has.each,
      at-over network number (after_turns network number many) (subst (λ t. IsAt network number t (after_turns network number many)) has.all (turns-at network is number there many)),
    ))
