-- A step of a station, or of the text, is a turn of its process.
use Rattle.std.proofs.Common.{◌≡◌, ◌∙◌, ◌⊎◌, inl, inr, ℕ, suc, ◌+◌, ◌<◌, ◌≤◌, ◌==◌, ◌||◌, Bool, true, false, cond, List, [], ◌∷◌, length, map, get_or, ap, refl, subst, sym, arith}
use mathlib.Core.Path.{fun_ext}
use Rattle.std.proofs.lemmas.Bool.{both_ways, cases_Bool}
use Rattle.std.specs.List.{list_any}
use Rattle.cmb_engine.specs.Windows.{end_of}
use Rattle.cmb_shares_protocol.specs.Network.{Network, ahead}
use Rattle.cmb_shares_protocol.specs.Turns.{IsAt, GoesBy, turn, turned}
use Rattle.cmb_shares_protocol.proofs.Grid.{ahead-below, ahead-later}
use Rattle.cmb_shares_protocol.proofs.TurnFacts.{turn-leads}
use Rattle.cmb_shares.specs.declared.message.Envelope.{Envelope}
use Rattle.cmb_shares.specs.Inner.Flows.{AreSources}
use Rattle.cmb_shares.specs.Inner.Processes.{Member, Turns, leads_by, process_of, text_of, upto_by}
use Rattle.cmb_shares.specs.Inner.Runs.{Run}
use Rattle.cmb_shares.specs.Inner.Stations.{readers_of, senders_of}

-- messages went along each of these up to a tick
abbrev AreUpto : ℕ → List Envelope → Type 0
AreUpto tick channels = (k : ℕ) (d : Envelope) → k < length channels → (get_or channels k d).upto ≡ tick

module _ (peer : Envelope → ℕ) (number : ℕ) where
  any-map : (channels : List Envelope) → leads_by peer channels number ≡ list_any (λ n. n == number) (map peer channels)
  any-map [] = refl
  any-map (e ∷ es) = ap (λ b. (peer e == number) || b) (any-map es)

  -- channels from, or to, the same
  same-leads : (channels others : List Envelope) → map peer others ≡ map peer channels → leads_by peer others number ≡ leads_by peer channels number
  same-leads channels others same = any-map others ∙ ap (list_any (λ n. n == number)) same ∙ sym (any-map channels)

  upto-there : (channels : List Envelope) (tick : ℕ) → AreUpto tick channels → leads_by peer channels number ≡ true → upto_by peer channels number ≡ tick
  upto-there [] tick are there = absurd (both_ways false refl there)
  upto-there (e ∷ es) tick are there = by (peer e == number) refl (λ more. upto-there es tick (λ k d h. are (suc k) d (omega (arith, h))) more)
    where
      by : (b : Bool) → (peer e == number) ≡ b → (leads_by peer es number ≡ true → upto_by peer es number ≡ tick) → upto_by peer (e ∷ es) number ≡ tick
      by true is rest = ap (λ b. cond b e.upto (upto_by peer es number)) is ∙ are 0 e (omega arith)
      by false is rest = ap (λ b. cond b e.upto (upto_by peer es number)) is ∙ rest (sym (ap (λ b. b || leads_by peer es number) is) ∙ there)

  upto-none : (channels : List Envelope) → leads_by peer channels number ≡ false → upto_by peer channels number ≡ 1
  upto-none [] none = refl
  upto-none (e ∷ es) none = by (peer e == number) refl (λ more. upto-none es more)
    where
      by : (b : Bool) → (peer e == number) ≡ b → (leads_by peer es number ≡ false → upto_by peer es number ≡ 1) → upto_by peer (e ∷ es) number ≡ 1
      by true is rest = absurd (both_ways true (sym (ap (λ b. b || leads_by peer es number) is) ∙ none) refl)
      by false is rest = ap (λ b. cond b e.upto (upto_by peer es number)) is ∙ rest (sym (ap (λ b. b || leads_by peer es number) is) ∙ none)

-- the ticks of some channels before a turn and after it
turned-ticks : (network : Network) (peer : Envelope → ℕ) (leads : ℕ → Bool) (old new : List Envelope) (from upto : ℕ) → ((number : ℕ) → leads number ≡ leads_by peer old number)
    → AreUpto from old → AreUpto upto new → map peer new ≡ map peer old → ahead network from ≡ upto
    → (λ (number : ℕ). cond (leads number) (ahead network (upto_by peer old number)) (upto_by peer old number)) ≡ upto_by peer new
turned-ticks network peer leads old new from upto is before now same on = fun_ext (λ number. by number (cases_Bool (leads_by peer old number)))
  where
    by : (number : ℕ) → (leads_by peer old number ≡ true) ⊎ (leads_by peer old number ≡ false)
        → cond (leads number) (ahead network (upto_by peer old number)) (upto_by peer old number) ≡ upto_by peer new number
    by number (inl there) =
        ap (λ b. cond b (ahead network (upto_by peer old number)) (upto_by peer old number)) (is number ∙ there)
        ∙ ap (ahead network) (upto-there peer number old from before there) ∙ on
        ∙ sym (upto-there peer number new upto now (same-leads peer number old new same ∙ there))
    by number (inr none) =
        ap (λ b. cond b (ahead network (upto_by peer old number)) (upto_by peer old number)) (is number ∙ none)
        ∙ upto-none peer number old none ∙ sym (upto-none peer number new (same-leads peer number old new same ∙ none))

-- a process that told, took and made all of a window more
pub member-turns : (run : Run) (old new : Member) → old.number ≤ length run.driven → old.clock < run.windows.horizon
    → AreUpto old.clock old.outs → AreUpto old.clock old.ins → AreUpto new.clock new.outs → AreUpto new.clock new.ins
    → readers_of new.outs ≡ readers_of old.outs → senders_of new.ins ≡ senders_of old.ins → new.clock ≡ end_of run.windows old.clock → new.number ≡ old.number → Turns run old new
member-turns run old new within early told taken told' taken' readers senders end number network lawful part = (
  subst (GoesBy network old.number (process_of old) (turn network old.number)) same
      (turn-leads network old.number old.clock (process_of old) at (omega (arith, part.shares, within)) here (ahead-later network lawful old.clock here) (lawful.reader old.number) (λ sender. lawful.sender sender old.number)),
  record {
    shares = part.shares;
    begin = part.begin;
    ends = part.ends;
    horizon = part.horizon;
    tells = λ reader. ap (λ n. network.leads n reader) number ∙ part.tells reader ∙ sym (same-leads (λ e. e.reader) reader old.outs new.outs readers);
    takes = λ sender. ap (λ n. network.leads sender n) number ∙ part.takes sender ∙ sym (same-leads (λ e. e.sender) sender old.ins new.ins senders);
  },
)
  where
    here : old.clock < network.horizon
    here = omega (arith, part.horizon, early)

    on : ahead network old.clock ≡ new.clock
    on = ahead-below network old.clock here ∙ part.ends old.clock ∙ sym end

    at : IsAt network old.number old.clock (process_of old)
    at = record {
      clock = refl;
      sent = λ reader leads. upto-there (λ e. e.reader) reader old.outs old.clock told (sym (part.tells reader) ∙ leads);
      received = λ sender leads. upto-there (λ e. e.sender) sender old.ins old.clock taken (sym (part.takes sender) ∙ leads);
    }

    sent : (turned network old.number (process_of old)).sent ≡ (process_of new).sent
    sent = turned-ticks network (λ e. e.reader) (network.leads old.number) old.outs new.outs old.clock new.clock part.tells told told' readers on

    received : (turned network old.number (process_of old)).received ≡ (process_of new).received
    received = turned-ticks network (λ e. e.sender) (λ sender. network.leads sender old.number) old.ins new.ins old.clock new.clock part.takes taken taken' senders on

    same : turned network old.number (process_of old) ≡ process_of new
    same = λ i. record { clock = on i; sent = sent i; received = received i }

-- sources in the order of their numbers tell as others do
ordered : (first : ℕ) (sources others : List Envelope) → length others ≡ length sources → ((k : ℕ) (d : Envelope) → k < length sources → (get_or sources k d).sender ≡ first + k)
    → ((k : ℕ) (d : Envelope) → k < length others → (get_or others k d).sender ≡ first + k) → senders_of others ≡ senders_of sources
ordered first [] [] same are are' = refl
ordered first [] (o ∷ os) same are are' = absurd (omega (arith, same))
ordered first (s ∷ ss) [] same are are' = absurd (omega (arith, same))
ordered first (s ∷ ss) (o ∷ os) same are are' =
    let here : o.sender ≡ s.sender = are' 0 o (omega arith) ∙ sym (are 0 s (omega arith)) in
    let rest : senders_of os ≡ senders_of ss =
    ordered (suc first) ss os (omega (arith, same)) (λ k d h. are (suc k) d (omega (arith, h)) ∙ omega arith) (λ k d h. are' (suc k) d (omega (arith, h)) ∙ omega arith) in
    ap (λ (n : ℕ). n ∷ senders_of os) here ∙ ap (λ (l : List ℕ). s.sender ∷ l) rest

pub text-turns : (run : Run) (old new : List Envelope) (from upto : ℕ) → from < run.windows.horizon → length new ≡ length old → AreSources run from old → AreSources run upto new → upto ≡ end_of run.windows from
    → Turns run (text_of run from old) (text_of run upto new)
text-turns run old new from upto early same before now end =
    member-turns run (text_of run from old) (text_of run upto new) (omega arith) early (λ k d h. absurd (omega (arith, h))) (λ k d h. (before k d h).2) (λ k d h. absurd (omega (arith, h))) (λ k d h. (now k d h).2) refl
    (ordered 0 old new same (λ k d h. (before k d h).0 ∙ omega arith) (λ k d h. (now k d h).0 ∙ omega arith)) end refl
