-- The events of a turn are due.
use Rattle.std.proofs.Common.{◌≡◌, ℕ, zero, suc, ◌<◌, ◌≤◌, ◌⊎◌, inl, inr, Bool, true, false, ◌&&◌, List, [], ◌∷◌, ◌++◌, cond, ltb, refl, ap, sym, ◌∙◌, subst, arith}
use mathlib.Core.Path.{fun_ext}
use Rattle.std.proofs.lemmas.Bool.{cases_Bool, cases_eq, cases_lt, eq-eqb, ne_eqb, lt-ltb, le-ltb}
use Rattle.cmb_shares_protocol.specs.Network.{Network, ahead, lookahead}
use Rattle.cmb_shares_protocol.specs.Machine.{Process, Event, Tell, Take, HasTold, HasTaken, gone_on, moved}
use Rattle.cmb_shares_protocol.specs.Turns.{GoesBy, on_each, turn, IsAt, turned}
use Rattle.cmb_shares_protocol.proofs.Grid.{lookahead-share, lookahead-text}

pub leads-append : (network : Network) (number : ℕ) (before : Process) (first : List Event) (between : Process) (second : List Event) (now : Process) → GoesBy network number before first between
    → GoesBy network number between second now → GoesBy network number before (first ++ second) now
leads-append network number before [] between second now same rest = subst (λ p. GoesBy network number p second now) (sym same) rest
leads-append network number before (event ∷ first) between second now leads rest =
    (leads.0, leads.1, leads-append network number (moved network before event) first between second now leads.2 rest)

-- ---- ticks of channels, of which the first went on by a window

abbrev upto : Network → (ℕ → Bool) → ℕ → (ℕ → ℕ) → ℕ → ℕ
upto network leads many ticks other = cond (ltb other many && leads other) (ahead network (ticks other)) (ticks other)

module _ (network : Network) (leads : ℕ → Bool) (ticks : ℕ → ℕ) where
  upto-is : (many other : ℕ) (below there : Bool) → ltb other many ≡ below → leads other ≡ there → upto network leads many ticks other ≡ cond (below && there) (ahead network (ticks other)) (ticks other)
  upto-is many other below there b t = ap (λ c. cond (c && leads other) (ahead network (ticks other)) (ticks other)) b ∙ ap (λ c. cond (below && c) (ahead network (ticks other)) (ticks other)) t

  upto-past : (many other : ℕ) → many ≤ other → upto network leads many ticks other ≡ ticks other
  upto-past many other h = ap (λ c. cond (c && leads other) (ahead network (ticks other)) (ticks other)) (le-ltb other many h)

  upto-below : (many other : ℕ) → other < many → upto network leads many ticks other ≡ cond (leads other) (ahead network (ticks other)) (ticks other)
  upto-below many other h = ap (λ c. cond (c && leads other) (ahead network (ticks other)) (ticks other)) (lt-ltb other many h)

  upto-zero : upto network leads 0 ticks ≡ ticks
  upto-zero = fun_ext (λ other. upto-past 0 other (omega arith))

  -- one more, where a channel leads
  upto-more : (many : ℕ) → leads many ≡ true → gone_on network many (upto network leads many ticks) ≡ upto network leads (suc many) ticks
  upto-more many there = fun_ext (λ other. by other (cases_eq other many))
    where
      next : ℕ → ℕ
      next = upto network leads (suc many) ticks

      far : (other : ℕ) → (other ≡ many → ⊥) → (other < many) ⊎ (many ≤ other) → upto network leads many ticks other ≡ upto network leads (suc many) ticks other
      far other n (inl less) = upto-below many other less ∙ sym (upto-below (suc many) other (omega arith))
      far other n (inr more) = upto-past many other more ∙ sym (upto-past (suc many) other (omega (arith, more, n)))

      by : (other : ℕ) → (other ≡ many) ⊎ (other ≡ many → ⊥) → gone_on network many (upto network leads many ticks) other ≡ upto network leads (suc many) ticks other
      by other (inl e) =
          ap (λ c. cond c (ahead network (upto network leads many ticks other)) (upto network leads many ticks other)) (eq-eqb other many e)
          ∙ ap (ahead network) (upto-past many other (omega (arith, e)))
          ∙ sym (upto-below (suc many) other (omega (arith, e)) ∙ ap (λ c. cond c (ahead network (ticks other)) (ticks other)) (ap leads e ∙ there))
      by other (inr n) =
          ap (λ c. cond c (ahead network (upto network leads many ticks other)) (upto network leads many ticks other)) (ne_eqb other many n) ∙ far other n (cases_lt other many)

  -- and where none does
  upto-none : (many : ℕ) → leads many ≡ false → upto network leads many ticks ≡ upto network leads (suc many) ticks
  upto-none many none = fun_ext (λ other. by other (cases_eq other many))
    where
      far : (other : ℕ) → (other ≡ many → ⊥) → (other < many) ⊎ (many ≤ other) → upto network leads many ticks other ≡ upto network leads (suc many) ticks other
      far other n (inl less) = upto-below many other less ∙ sym (upto-below (suc many) other (omega arith))
      far other n (inr more) = upto-past many other more ∙ sym (upto-past (suc many) other (omega (arith, more, n)))

      by : (other : ℕ) → (other ≡ many) ⊎ (other ≡ many → ⊥) → upto network leads many ticks other ≡ upto network leads (suc many) ticks other
      by other (inl e) =
          upto-past many other (omega (arith, e))
          ∙ sym (upto-below (suc many) other (omega (arith, e)) ∙ ap (λ c. cond c (ahead network (ticks other)) (ticks other)) (ap leads e ∙ none))
      by other (inr n) = far other n (cases_lt other many)

  -- all of them
  upto-all : (many : ℕ) → ((other : ℕ) → leads other ≡ true → other < many) → upto network leads many ticks ≡ (λ other. cond (leads other) (ahead network (ticks other)) (ticks other))
  upto-all many inside = fun_ext (λ other. by other (cases_lt other many) (cases_Bool (leads other)))
    where
      by : (other : ℕ) → (other < many) ⊎ (many ≤ other) → (leads other ≡ true) ⊎ (leads other ≡ false) → upto network leads many ticks other ≡ cond (leads other) (ahead network (ticks other)) (ticks other)
      by other (inl less) _ = upto-below many other less
      by other (inr more) (inl there) = absurd (omega (arith, more, inside other there))
      by other (inr more) (inr none) = upto-past many other more ∙ sym (ap (λ c. cond c (ahead network (ticks other)) (ticks other)) none)

-- ---- the parts of a turn

module _ (network : Network) (number tick : ℕ) (process : Process) (is : IsAt network number tick process) (there : number ≤ network.shares) (early : tick < network.horizon) (later : tick < ahead network tick) where
  tells : (many : ℕ) → many ≤ network.shares → GoesBy network number process (on_each (network.leads number) (Tell number) many) (record process { sent = upto network (network.leads number) many process.sent })
  tells zero h = ap (λ (f : ℕ → ℕ). record process { sent = f }) (sym (upto-zero network (network.leads number) process.sent))
  tells (suc many) h =
      leads-append network number process (on_each (network.leads number) (Tell number) many) _ _ _ (tells many (omega (arith, h))) (one (network.leads number many) refl)
    where
      one : (there : Bool) → network.leads number many ≡ there
          → GoesBy network number (record process { sent = upto network (network.leads number) many process.sent }) (cond there (Tell number many ∷ []) []) (record process { sent = upto network (network.leads number) (suc many) process.sent })
      one true e = (
        refl,
        (e, omega (arith, later, is.clock, is.sent many e, upto-past network (network.leads number) process.sent many many (omega arith), lookahead-share network process.clock many (omega (arith, h)), ap (ahead network) is.clock)),
        ap (λ (f : ℕ → ℕ). record process { sent = f }) (upto-more network (network.leads number) process.sent many e),
      )
      one false e = ap (λ (f : ℕ → ℕ). record process { sent = f }) (upto-none network (network.leads number) process.sent many e)

  -- ---- it takes

  abbrev sent' : ℕ → ℕ
  sent' = upto network (network.leads number) network.shares process.sent

  abbrev from : ℕ → Bool
  from sender = network.leads sender number

  abbrev received' : ℕ → ℕ
  received' = upto network from network.shares process.received

  has-told : (received : ℕ → ℕ) → HasTold network number (record process { sent = sent'; received = received })
  has-told received reader leads = by (cases_lt reader network.shares)
    where
      by : (reader < network.shares) ⊎ (network.shares ≤ reader) → lookahead network process.clock reader ≤ sent' reader
      by (inl inside) =
          omega (
            arith,
            lookahead-share network process.clock reader inside,
            upto-below network (network.leads number) process.sent network.shares reader inside,
            ap (λ c. cond c (ahead network (process.sent reader)) (process.sent reader)) leads,
            ap (ahead network) (is.sent reader leads),
            ap (ahead network) is.clock,
          )
      by (inr text) =
          omega (arith, lookahead-text network process.clock reader text, upto-past network (network.leads number) process.sent network.shares reader text, is.sent reader leads, is.clock)

  takes : (many : ℕ) → many ≤ network.shares
      → GoesBy network number (record process { sent = sent' }) (on_each from (λ sender. Take sender number) many) (record process { sent = sent'; received = upto network from many process.received })
  takes zero h = ap (λ (f : ℕ → ℕ). record process { sent = sent'; received = f }) (sym (upto-zero network from process.received))
  takes (suc many) h =
      leads-append network number (record process { sent = sent' }) (on_each from (λ sender. Take sender number) many) _ _ _ (takes many (omega (arith, h))) (one (from many) refl)
    where
      one : (there : Bool) → from many ≡ there
          → GoesBy network number (record process { sent = sent'; received = upto network from many process.received }) (cond there (Take many number ∷ []) []) (record process { sent = sent'; received = upto network from (suc many) process.received })
      one true e = (
        refl,
        (e, has-told (upto network from many process.received), omega (arith, later, is.clock, is.received many e, upto-past network from process.received many many (omega arith), ap (ahead network) is.clock)),
        ap (λ (f : ℕ → ℕ). record process { sent = sent'; received = f }) (upto-more network from process.received many e),
      )
      one false e = ap (λ (f : ℕ → ℕ). record process { sent = sent'; received = f }) (upto-none network from process.received many e)

  -- ---- it goes on

  module _ (readers : (reader : ℕ) → network.leads number reader ≡ true → reader ≤ network.shares) (senders : (sender : ℕ) → network.leads sender number ≡ true → sender < network.shares) where
    has-taken : HasTaken network number (record process { sent = sent'; received = received' })
    has-taken sender leads =
        omega (
          arith,
          upto-below network from process.received network.shares sender (senders sender leads),
          ap (λ c. cond c (ahead network (process.received sender)) (process.received sender)) leads,
          ap (ahead network) (is.received sender leads),
          ap (ahead network) is.clock,
        )

    abbrev made : Process
    made = record { clock = ahead network process.clock; sent = sent'; received = received' }

    abbrev done : Process
    done = record { clock = ahead network process.clock; sent = upto network (network.leads number) (suc network.shares) process.sent; received = received' }

    tells-text : (there : Bool) → network.leads number network.shares ≡ there → GoesBy network number made (cond there (Tell number network.shares ∷ []) []) done
    tells-text true e = (
      refl,
      (e, omega (arith, later, is.clock, is.sent network.shares e, upto-past network (network.leads number) process.sent network.shares network.shares (omega arith), lookahead-text network (ahead network process.clock) network.shares (omega arith), ap (ahead network) is.clock)),
      ap (λ (f : ℕ → ℕ). record { clock = ahead network process.clock; sent = f; received = received' }) (upto-more network (network.leads number) process.sent network.shares e),
    )
    tells-text false e = ap (λ (f : ℕ → ℕ). record { clock = ahead network process.clock; sent = f; received = received' }) (upto-none network (network.leads number) process.sent network.shares e)

    done-is : done ≡ turned network number process
    done-is =
        ap (λ (f : ℕ → ℕ). record { clock = ahead network process.clock; sent = f; received = received' }) (upto-all network (network.leads number) process.sent (suc network.shares) (λ reader leads. omega (arith, readers reader leads)))
        ∙ ap (λ (f : ℕ → ℕ). record { clock = ahead network process.clock; sent = λ reader. cond (network.leads number reader) (ahead network (process.sent reader)) (process.sent reader); received = f }) (upto-all network from process.received network.shares senders)

    pub turn-leads : GoesBy network number process (turn network number) (turned network number process)
    turn-leads =
        leads-append network number process (on_each (network.leads number) (Tell number) network.shares ++ on_each from (λ sender. Take sender number) network.shares) _ _ _
        (leads-append network number process (on_each (network.leads number) (Tell number) network.shares) _ _ _ (tells network.shares (omega arith)) (takes network.shares (omega arith))) (
          refl,
          (there, omega (arith, early, is.clock), has-told received', has-taken),
          subst (GoesBy network number made (cond (network.leads number network.shares) (Tell number network.shares ∷ []) [])) done-is (tells-text (network.leads number network.shares) refl),
        )

-- the process is a window on
pub turn-at : (network : Network) (number tick : ℕ) (process : Process) → IsAt network number tick process → IsAt network number (ahead network tick) (turned network number process)
turn-at network number tick process is = record {
  clock = ap (ahead network) is.clock;
  sent = λ reader leads. ap (λ c. cond c (ahead network (process.sent reader)) (process.sent reader)) leads ∙ ap (ahead network) (is.sent reader leads);
  received = λ sender leads. ap (λ c. cond c (ahead network (process.received sender)) (process.received sender)) leads ∙ ap (ahead network) (is.received sender leads);
}
