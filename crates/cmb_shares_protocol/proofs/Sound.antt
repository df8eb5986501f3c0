-- What holds of all states that can come about.
use Rattle.std.proofs.Common.{◌≡◌, ℕ, ◌<◌, ◌≤◌, ◌⊎◌, inl, inr, true, List, [], ◌∷◌, cond, eqb, refl, ap, sym, ◌∙◌, subst, arith}
use Rattle.std.proofs.lemmas.Bool.{eq-eqb, ne_eqb, cases_eq, cond_both}
use Rattle.cmb_shares_protocol.specs.Network.{Network, IsNetwork, ahead, windows_on, lookahead}
use Rattle.cmb_shares_protocol.specs.Machine.{Process, Processes, Event, Tell, Take, Advance, doer, CanHappen, gone_on, moved, after}
use Rattle.cmb_shares_protocol.specs.Runs.{start, LeadTo, IsReachable, NotBelow, IsKnown}
use Rattle.cmb_shares_protocol.proofs.Grid.{IsOnGrid, on-ahead, on-windows, windows_on-least, windows_on-up, ahead-up, ahead-within, gap, lookahead-share, lookahead-text, lookahead-on, lookahead-most, lookahead-up}

-- ---- one process after an event

gone_on-up : (network : Network) → IsNetwork network → (at : ℕ) (ticks : ℕ → ℕ) (other : ℕ) → ticks other ≤ gone_on network at ticks other
gone_on-up network is at ticks other =
    cond_both (eqb other at) (ahead network (ticks other)) (ticks other) (λ t. ticks other ≤ t) (λ same. ahead-up network is (ticks other)) (λ differ. omega arith)

pub not_below-same : (process : Process) → NotBelow process process
not_below-same process = record { clock = omega arith; sent = λ reader. omega arith; received = λ sender. omega arith }

pub moved-up : (network : Network) → IsNetwork network → (process : Process) (event : Event) → NotBelow process (moved network process event)
moved-up network is process (Tell sender reader) =
    record { clock = omega arith; sent = gone_on-up network is reader process.sent; received = λ other. omega arith }
moved-up network is process (Take sender reader) =
    record { clock = omega arith; sent = λ other. omega arith; received = gone_on-up network is sender process.received }
moved-up network is process (Advance number) =
    record { clock = ahead-up network is process.clock; sent = λ other. omega arith; received = λ other. omega arith }

pub after-up : (network : Network) → IsNetwork network → (processes : Processes) (event : Event) (number : ℕ) → NotBelow (processes number) (after network processes event number)
after-up network is processes event number =
    cond_both (eqb number (doer event)) (moved network (processes number) event) (processes number) (NotBelow (processes number))
    (λ same. moved-up network is (processes number) event) (λ differ. not_below-same (processes number))

-- ---- what always holds

-- of a channel to a reader: its room, the sender's clock, up to where it was told and up to where it was taken, the reader's clock
pub record IsSoundChannel (network : Network) (reader room clock sent received other : ℕ) : Type 0 where
  pub taken : received ≤ sent
  pub held : sent ≤ windows_on network room received
  pub heard : other ≤ received
  pub heard_soon : received ≤ ahead network other
  pub told_soon : sent ≤ lookahead network clock reader
  pub told : reader < network.shares → clock ≤ sent
  pub text : network.shares ≤ reader → clock ≤ ahead network sent

pub record IsSoundProcess (network : Network) (process : Process) : Type 0 where
  pub clock : IsOnGrid network process.clock
  pub sent : (reader : ℕ) → IsOnGrid network (process.sent reader)
  pub received : (sender : ℕ) → IsOnGrid network (process.received sender)
  pub within : process.clock ≤ network.horizon

abbrev pub IsSoundBetween : Network → Processes → ℕ → ℕ → Type 0
IsSoundBetween network processes sender reader =
    IsSoundChannel network reader (network.room sender reader) (processes sender).clock ((processes sender).sent reader) ((processes reader).received sender) (processes reader).clock

pub record IsSound (network : Network) (processes : Processes) : Type 0 where
  pub each : (number : ℕ) → IsSoundProcess network (processes number)
  pub channels : (sender reader : ℕ) → network.leads sender reader ≡ true → IsSoundBetween network processes sender reader

pub start-sound : (network : Network) → IsNetwork network → IsSound network (start network)
start-sound network is = record {
  each = λ number. record { clock = (0, refl); sent = λ reader. (0, refl); received = λ sender. (0, refl); within = is.begins };
  channels = λ sender reader leads. record {
    taken = omega arith;
    held = windows_on-least network is (network.room sender reader) network.begin;
    heard = omega arith;
    heard_soon = ahead-up network is network.begin;
    told_soon = lookahead-up network is network.begin reader;
    told = λ share. omega arith;
    text = λ text. ahead-up network is network.begin;
  };
}

-- ---- an event keeps it of each process

gone_on-grid : (network : Network) (at : ℕ) (ticks : ℕ → ℕ) → ((other : ℕ) → IsOnGrid network (ticks other)) → (other : ℕ) → IsOnGrid network (gone_on network at ticks other)
gone_on-grid network at ticks on other =
    cond_both (eqb other at) (ahead network (ticks other)) (ticks other) (IsOnGrid network) (λ same. on-ahead network (ticks other) (on other)) (λ differ. on other)

moved-sound : (network : Network) → IsNetwork network → (process : Process) (event : Event) → IsSoundProcess network process → IsSoundProcess network (moved network process event)
moved-sound network is process (Tell sender reader) sound =
    record { clock = sound.clock; sent = gone_on-grid network reader process.sent sound.sent; received = sound.received; within = sound.within }
moved-sound network is process (Take sender reader) sound =
    record { clock = sound.clock; sent = sound.sent; received = gone_on-grid network sender process.received sound.received; within = sound.within }
moved-sound network is process (Advance number) sound =
    record { clock = on-ahead network process.clock sound.clock; sent = sound.sent; received = sound.received; within = ahead-within network is process.clock sound.within }

after-each : (network : Network) → IsNetwork network → (processes : Processes) (event : Event) → IsSound network processes → (number : ℕ) → IsSoundProcess network (after network processes event number)
after-each network is processes event sound number =
    cond_both (eqb number (doer event)) (moved network (processes number) event) (processes number) (IsSoundProcess network)
    (λ same. moved-sound network is (processes number) event (sound.each number)) (λ differ. sound.each number)

-- ---- an event keeps it of a channel

as-numbers : (network : Network) (reader room clock clock' sent sent' received received' other other' : ℕ) → clock' ≡ clock → sent' ≡ sent → received' ≡ received → other' ≡ other
    → IsSoundChannel network reader room clock sent received other → IsSoundChannel network reader room clock' sent' received' other'
as-numbers network reader room clock clock' sent sent' received received' other other' c s r o was =
    subst (λ n. IsSoundChannel network reader room n sent' received' other') (sym c)
    (subst (λ n. IsSoundChannel network reader room clock n received' other') (sym s)
    (subst (λ n. IsSoundChannel network reader room clock sent n other') (sym r)
    (subst (λ n. IsSoundChannel network reader room clock sent received n) (sym o) was)))

module _ (network : Network) (is : IsNetwork network) (reader room clock sent received other : ℕ) (was : IsSoundChannel network reader room clock sent received other) where
  tells : IsOnGrid network clock → IsOnGrid network sent → IsOnGrid network received → sent < lookahead network clock reader → sent < windows_on network room received → IsSoundChannel network reader room clock (ahead network sent) received other
  tells on on' on'' due free = record {
    taken = omega (arith, was.taken, ahead-up network is sent);
    held = gap network is sent (windows_on network room received) on' (on-windows network room received on'') free;
    heard = was.heard;
    heard_soon = was.heard_soon;
    told_soon = gap network is sent (lookahead network clock reader) on' (lookahead-on network clock reader on) due;
    told = λ share. omega (arith, was.told share, ahead-up network is sent);
    text = λ text. omega (arith, was.text text, ahead-up network is (ahead network sent));
  }

  takes : IsOnGrid network sent → IsOnGrid network received → IsOnGrid network other → received < ahead network other → received < sent → IsSoundChannel network reader room clock sent (ahead network received) other
  takes on on' on'' due message = record {
    taken = gap network is received sent on' on message;
    held = omega (arith, was.held, windows_on-up network is room received);
    heard = omega (arith, was.heard, ahead-up network is received);
    heard_soon = gap network is received (ahead network other) on' (on-ahead network other on'') due;
    told_soon = was.told_soon;
    told = was.told;
    text = was.text;
  }

  reader-advances : ahead network other ≤ received → IsSoundChannel network reader room clock sent received (ahead network other)
  reader-advances taken = record {
    taken = was.taken;
    held = was.held;
    heard = taken;
    heard_soon = omega (arith, was.heard_soon, ahead-up network is (ahead network other));
    told_soon = was.told_soon;
    told = was.told;
    text = was.text;
  }

  sender-advances : lookahead network clock reader ≤ sent → IsSoundChannel network reader room (ahead network clock) sent received other
  sender-advances told = record {
    taken = was.taken;
    held = was.held;
    heard = was.heard;
    heard_soon = was.heard_soon;
    told_soon = omega (arith, was.told_soon, lookahead-most network is clock reader, lookahead-up network is (ahead network clock) reader);
    told = λ share. omega (arith, told, lookahead-share network clock reader share);
    text = λ text.
        let same : sent ≡ clock = omega (arith, told, was.told_soon, lookahead-text network clock reader text) in
        subst (λ n. ahead network clock ≤ ahead network n) (sym same) (omega arith);
  }

-- ---- the numbers after an event

gone_on-cases : (network : Network) (at : ℕ) (ticks : ℕ → ℕ) (other : ℕ) → ((other ≡ at) × (gone_on network at ticks other ≡ ahead network (ticks other))) ⊎ (gone_on network at ticks other ≡ ticks other)
gone_on-cases network at ticks other = by (cases_eq other at)
  where
    by : (other ≡ at) ⊎ (other ≡ at → ⊥) → ((other ≡ at) × (gone_on network at ticks other ≡ ahead network (ticks other))) ⊎ (gone_on network at ticks other ≡ ticks other)
    by (inl e) = inl (e, ap (λ b. cond b (ahead network (ticks other)) (ticks other)) (eq-eqb other at e))
    by (inr n) = inr (ap (λ b. cond b (ahead network (ticks other)) (ticks other)) (ne_eqb other at n))

pub after-cases : (network : Network) (processes : Processes) (event : Event) (number : ℕ) → ((number ≡ doer event) × (after network processes event number ≡ moved network (processes number) event)) ⊎ (after network processes event number ≡ processes number)
after-cases network processes event number = by (cases_eq number (doer event))
  where
    by : (number ≡ doer event) ⊎ (number ≡ doer event → ⊥) → ((number ≡ doer event) × (after network processes event number ≡ moved network (processes number) event)) ⊎ (after network processes event number ≡ processes number)
    by (inl e) = inl (e, ap (λ b. cond b (moved network (processes number) event) (processes number)) (eq-eqb number (doer event) e))
    by (inr n) = inr (ap (λ b. cond b (moved network (processes number) event) (processes number)) (ne_eqb number (doer event) n))

module _ (network : Network) (processes : Processes) where
  abbrev now : Event → Processes
  now event = after network processes event

  -- what a field of a process is after an event of which it isn't a part
  same-field : (field : Process → ℕ) (event : Event) (number : ℕ) → field (moved network (processes number) event) ≡ field (processes number) → field (now event number) ≡ field (processes number)
  same-field field event number kept = by (after-cases network processes event number)
    where
      by : ((number ≡ doer event) × (now event number ≡ moved network (processes number) event)) ⊎ (now event number ≡ processes number) → field (now event number) ≡ field (processes number)
      by (inl (e, f)) = ap field f ∙ kept
      by (inr f) = ap field f

  tell-sent : (s r sender reader : ℕ) → ((sender ≡ s) × (reader ≡ r) × ((now (Tell s r) sender).sent reader ≡ ahead network ((processes sender).sent reader))) ⊎ ((now (Tell s r) sender).sent reader ≡ (processes sender).sent reader)
  tell-sent s r sender reader = by (after-cases network processes (Tell s r) sender) (gone_on-cases network r (processes sender).sent reader)
    where
      by : ((sender ≡ s) × (now (Tell s r) sender ≡ moved network (processes sender) (Tell s r))) ⊎ (now (Tell s r) sender ≡ processes sender)
          → ((reader ≡ r) × (gone_on network r (processes sender).sent reader ≡ ahead network ((processes sender).sent reader))) ⊎ (gone_on network r (processes sender).sent reader ≡ (processes sender).sent reader)
          → ((sender ≡ s) × (reader ≡ r) × ((now (Tell s r) sender).sent reader ≡ ahead network ((processes sender).sent reader))) ⊎ ((now (Tell s r) sender).sent reader ≡ (processes sender).sent reader)
      by (inl (e, f)) (inl (g, h)) = inl (e, g, ap (λ (p : Process). p.sent reader) f ∙ h)
      by (inl (e, f)) (inr h) = inr (ap (λ (p : Process). p.sent reader) f ∙ h)
      by (inr f) h = inr (ap (λ (p : Process). p.sent reader) f)

  take-received : (s r sender reader : ℕ) → ((sender ≡ s) × (reader ≡ r) × ((now (Take s r) reader).received sender ≡ ahead network ((processes reader).received sender))) ⊎ ((now (Take s r) reader).received sender ≡ (processes reader).received sender)
  take-received s r sender reader = by (after-cases network processes (Take s r) reader) (gone_on-cases network s (processes reader).received sender)
    where
      by : ((reader ≡ r) × (now (Take s r) reader ≡ moved network (processes reader) (Take s r))) ⊎ (now (Take s r) reader ≡ processes reader)
          → ((sender ≡ s) × (gone_on network s (processes reader).received sender ≡ ahead network ((processes reader).received sender))) ⊎ (gone_on network s (processes reader).received sender ≡ (processes reader).received sender)
          → ((sender ≡ s) × (reader ≡ r) × ((now (Take s r) reader).received sender ≡ ahead network ((processes reader).received sender))) ⊎ ((now (Take s r) reader).received sender ≡ (processes reader).received sender)
      by (inl (e, f)) (inl (g, h)) = inl (g, e, ap (λ (p : Process). p.received sender) f ∙ h)
      by (inl (e, f)) (inr h) = inr (ap (λ (p : Process). p.received sender) f ∙ h)
      by (inr f) h = inr (ap (λ (p : Process). p.received sender) f)

  advance-clock : (n number : ℕ) → ((number ≡ n) × ((now (Advance n) number).clock ≡ ahead network (processes number).clock)) ⊎ ((now (Advance n) number).clock ≡ (processes number).clock)
  advance-clock n number = by (after-cases network processes (Advance n) number)
    where
      by : ((number ≡ n) × (now (Advance n) number ≡ moved network (processes number) (Advance n))) ⊎ (now (Advance n) number ≡ processes number)
          → ((number ≡ n) × ((now (Advance n) number).clock ≡ ahead network (processes number).clock)) ⊎ ((now (Advance n) number).clock ≡ (processes number).clock)
      by (inl (e, f)) = inl (e, ap (λ (p : Process). p.clock) f)
      by (inr f) = inr (ap (λ (p : Process). p.clock) f)

-- ---- an event keeps it

module _ (network : Network) (is : IsNetwork network) (processes : Processes) (sound : IsSound network processes) (sender reader : ℕ) (leads : network.leads sender reader ≡ true) where
  was : IsSoundBetween network processes sender reader
  was = sound.channels sender reader leads

  after-tell : (s r : ℕ) → CanHappen network processes (Tell s r) → IsSoundBetween network (after network processes (Tell s r)) sender reader
  after-tell s r can = by (tell-sent network processes s r sender reader)
    where
      next : Processes
      next = after network processes (Tell s r)

      clock : (number : ℕ) → (next number).clock ≡ (processes number).clock
      clock number = same-field network processes (λ p. p.clock) (Tell s r) number refl

      received : (next reader).received sender ≡ (processes reader).received sender
      received = same-field network processes (λ p. p.received sender) (Tell s r) reader refl

      by : ((sender ≡ s) × (reader ≡ r) × ((next sender).sent reader ≡ ahead network ((processes sender).sent reader))) ⊎ ((next sender).sent reader ≡ (processes sender).sent reader) → IsSoundBetween network next sender reader
      by (inl (e, f, g)) =
          let due : (processes sender).sent reader < lookahead network (processes sender).clock reader =
          subst (λ a. (processes a).sent reader < lookahead network (processes a).clock reader) (sym e) (subst (λ b. (processes s).sent b < lookahead network (processes s).clock b) (sym f) can.0.1) in
          let free : (processes sender).sent reader < windows_on network (network.room sender reader) ((processes reader).received sender) =
          subst (λ a. (processes a).sent reader < windows_on network (network.room a reader) ((processes reader).received a)) (sym e) (subst (λ b. (processes s).sent b < windows_on network (network.room s b) ((processes b).received s)) (sym f) can.1) in
          as-numbers network reader _ _ _ _ _ _ _ _ _ (clock sender) g received (clock reader)
          (tells network is reader (network.room sender reader) (processes sender).clock ((processes sender).sent reader) ((processes reader).received sender) (processes reader).clock was (sound.each sender).clock ((sound.each sender).sent reader) ((sound.each reader).received sender) due free)
      by (inr g) = as-numbers network reader _ _ _ _ _ _ _ _ _ (clock sender) g received (clock reader) was

  after-take : (s r : ℕ) → CanHappen network processes (Take s r) → IsSoundBetween network (after network processes (Take s r)) sender reader
  after-take s r can = by (take-received network processes s r sender reader)
    where
      next : Processes
      next = after network processes (Take s r)

      clock : (number : ℕ) → (next number).clock ≡ (processes number).clock
      clock number = same-field network processes (λ p. p.clock) (Take s r) number refl

      sent : (next sender).sent reader ≡ (processes sender).sent reader
      sent = same-field network processes (λ p. p.sent reader) (Take s r) sender refl

      by : ((sender ≡ s) × (reader ≡ r) × ((next reader).received sender ≡ ahead network ((processes reader).received sender))) ⊎ ((next reader).received sender ≡ (processes reader).received sender) → IsSoundBetween network next sender reader
      by (inl (e, f, g)) =
          let due : (processes reader).received sender < ahead network (processes reader).clock =
          subst (λ b. (processes b).received sender < ahead network (processes b).clock) (sym f) (subst (λ a. (processes r).received a < ahead network (processes r).clock) (sym e) can.0.2) in
          let message : (processes reader).received sender < (processes sender).sent reader =
          subst (λ b. (processes b).received sender < (processes sender).sent b) (sym f) (subst (λ a. (processes r).received a < (processes a).sent r) (sym e) can.1) in
          as-numbers network reader _ _ _ _ _ _ _ _ _ (clock sender) sent g (clock reader)
          (takes network is reader (network.room sender reader) (processes sender).clock ((processes sender).sent reader) ((processes reader).received sender) (processes reader).clock was ((sound.each sender).sent reader) ((sound.each reader).received sender) (sound.each reader).clock due message)
      by (inr g) = as-numbers network reader _ _ _ _ _ _ _ _ _ (clock sender) sent g (clock reader) was

  after-advance : (n : ℕ) → CanHappen network processes (Advance n) → IsSoundBetween network (after network processes (Advance n)) sender reader
  after-advance n can = by (advance-clock network processes n sender) (advance-clock network processes n reader)
    where
      next : Processes
      next = after network processes (Advance n)

      sent : (next sender).sent reader ≡ (processes sender).sent reader
      sent = same-field network processes (λ p. p.sent reader) (Advance n) sender refl

      received : (next reader).received sender ≡ (processes reader).received sender
      received = same-field network processes (λ p. p.received sender) (Advance n) reader refl

      told : sender ≡ n → lookahead network (processes sender).clock reader ≤ (processes sender).sent reader
      told e = subst (λ a. lookahead network (processes a).clock reader ≤ (processes a).sent reader) (sym e) (can.0.2 reader (subst (λ a. network.leads a reader ≡ true) e leads))

      taken : reader ≡ n → ahead network (processes reader).clock ≤ (processes reader).received sender
      taken e = subst (λ a. ahead network (processes a).clock ≤ (processes a).received sender) (sym e) (can.0.3 sender (subst (λ a. network.leads sender a ≡ true) e leads))

      by : ((sender ≡ n) × ((next sender).clock ≡ ahead network (processes sender).clock)) ⊎ ((next sender).clock ≡ (processes sender).clock)
          → ((reader ≡ n) × ((next reader).clock ≡ ahead network (processes reader).clock)) ⊎ ((next reader).clock ≡ (processes reader).clock) → IsSoundBetween network next sender reader
      by (inl (e, f)) (inl (g, h)) =
          as-numbers network reader _ _ _ _ _ _ _ _ _ f sent received h
          (reader-advances network is reader (network.room sender reader) (ahead network (processes sender).clock) ((processes sender).sent reader) ((processes reader).received sender) (processes reader).clock
          (sender-advances network is reader (network.room sender reader) (processes sender).clock ((processes sender).sent reader) ((processes reader).received sender) (processes reader).clock was (told e)) (taken g))
      by (inl (e, f)) (inr h) =
          as-numbers network reader _ _ _ _ _ _ _ _ _ f sent received h
          (sender-advances network is reader (network.room sender reader) (processes sender).clock ((processes sender).sent reader) ((processes reader).received sender) (processes reader).clock was (told e))
      by (inr f) (inl (g, h)) =
          as-numbers network reader _ _ _ _ _ _ _ _ _ f sent received h
          (reader-advances network is reader (network.room sender reader) (processes sender).clock ((processes sender).sent reader) ((processes reader).received sender) (processes reader).clock was (taken g))
      by (inr f) (inr h) = as-numbers network reader _ _ _ _ _ _ _ _ _ f sent received h was

  after-between : (event : Event) → CanHappen network processes event → IsSoundBetween network (after network processes event) sender reader
  after-between (Tell s r) can = after-tell s r can
  after-between (Take s r) can = after-take s r can
  after-between (Advance n) can = after-advance n can

pub after-sound : (network : Network) → IsNetwork network → (processes : Processes) (event : Event) → CanHappen network processes event → IsSound network processes → IsSound network (after network processes event)
after-sound network is processes event can sound = record {
  each = after-each network is processes event sound;
  channels = λ sender reader leads. after-between network is processes sound sender reader leads event can;
}

pub leads_to-sound : (network : Network) → IsNetwork network → (before : Processes) (events : List Event) (now : Processes) → LeadTo network before events now → IsSound network before → IsSound network now
leads_to-sound network is before [] now same sound = subst (IsSound network) same sound
leads_to-sound network is before (event ∷ events) now leads sound =
    leads_to-sound network is (after network before event) events now leads.1 (after-sound network is before event leads.0 sound)

pub reachable-sound : (network : Network) → IsNetwork network → (processes : Processes) → IsReachable network processes → IsSound network processes
reachable-sound network is processes r = leads_to-sound network is (start network) r.0 processes r.1 (start-sound network is)

pub sound-known : (network : Network) (processes : Processes) (sender reader : ℕ) → IsSoundBetween network processes sender reader → IsKnown network processes sender reader
sound-known network processes sender reader was = record { told = was.told_soon; taken = was.taken; held = was.held; made = was.heard }
