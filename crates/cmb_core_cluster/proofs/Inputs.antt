-- Input waves by their net and by their place.
use Rattle.std.proofs.Common.{◌≡◌, ℕ, ◌<◌, Bool, true, false, cond, length, List, set, Option, Some, None, Result, Ok, Err, IsOk, eqb, leb, refl, sym, ◌∙◌, ap, subst, get_or-set_same}
use Rattle.cmb_wave.specs.declared.wave.WaveFault.{WaveFault}
use Rattle.cmb_wave.specs.declared.level.Promise.{Promise}
use Rattle.cmb_wave.specs.Wave.{Wave, Piece, new_wave, wave_up_to}
use Rattle.cmb_wave.specs.declared.wave.WaveFault.TheVariants.{Gap as WaveGap, Old as WaveOld, Clash as WaveClash, Memory as WaveMemory}
use Rattle.cmb_wave.specs.Calls.{taken, heard_wave, hears, RefusesAs}
use Rattle.cmb_core_cluster.specs.declared.process.ProcessRule.{ProcessRule}
use Rattle.cmb_core_cluster.specs.declared.process.ProcessRule.TheVariants.{Given, Input, Gate, Flop}
use Rattle.cmb_core_cluster.specs.Step.{wave_at, with_wave}
use Rattle.cmb_core_cluster.specs.Rows.{slot_of, is_given}
use Rattle.cmb_core_cluster.specs.Clusters.{Cluster, process_at, slot_wave, given_only, driven_only, input_slot, output_slot, as_delivery, delivered_at, delivered, heard_at, RefusesDelivery}
use Rattle.cmb_core_cluster.specs.Inner.Spans.{reach_at}
use Rattle.cmb_core_cluster.specs.Deliveries.{delivery_fault}
use Rattle.cmb_core_cluster.proofs.Slots.{slot_is, slot_net, slot_there, set_slots, set_with}

pub given_only_is : (s : Cluster) (r : Option ℕ) (slot : ℕ) → given_only s r ≡ Some slot → r ≡ Some slot
given_only_is s None slot e = cc
given_only_is s (Some k) slot e = go (is_given (process_at s k).rule) e
  where
    go : (b : Bool) → cond b (Some k) None ≡ Some slot → Some k ≡ Some slot
    go true h = h
    go false h = cc

pub input_slot_is : (s : Cluster) (net slot : ℕ) → input_slot s net ≡ Some slot → slot_of s.waves net ≡ Some slot
input_slot_is s net slot e = given_only_is s (slot_of s.waves net) slot e

pub input_there : (s : Cluster) (net slot : ℕ) → input_slot s net ≡ Some slot → slot < length s.waves
input_there s net slot e = slot_there s.waves net slot (input_slot_is s net slot e)

-- the wave in an input's place is that of its net
pub input_wave : (s : Cluster) (net slot : ℕ) → input_slot s net ≡ Some slot → slot_wave s slot ≡ wave_at s.waves net
input_wave s net slot e = (slot_is s.waves net slot (new_wave 0) (input_slot_is s net slot e)).1

-- another wave of the net in its place is the net's wave
pub input_put : (s : Cluster) (net slot : ℕ) (w : Wave) → input_slot s net ≡ Some slot → w.net ≡ (slot_wave s slot).net → (set s.waves slot w ≡ with_wave s.waves w) × (wave_at (set s.waves slot w) net ≡ w)
input_put s net slot w e n =
    let place : slot_of s.waves net ≡ Some slot = input_slot_is s net slot e in
    let there : slot < length s.waves = slot_there s.waves net slot place in
    let own : w.net ≡ net = n ∙ ap (λ v. v.net) (input_wave s net slot e) ∙ slot_net s.waves net slot place in
    let here : slot_of s.waves w.net ≡ Some slot = ap (slot_of s.waves) own ∙ place in
    let still : slot_of (set s.waves slot w) net ≡ Some slot = set_slots s.waves slot w (new_wave 0) there n net ∙ place in
    (set_with s.waves slot w here, sym (slot_is (set s.waves slot w) net slot (new_wave 0) still).1 ∙ get_or-set_same s.waves slot w (new_wave 0) there)

-- a delivery to the wave in an input's place
pub deliver_put : (s : Cluster) (piece : Piece) (slot : ℕ) (w : Wave) (new : List Wave) → input_slot s piece.net ≡ Some slot → new ≡ set s.waves slot w → w.net ≡ (slot_wave s slot).net → taken (slot_wave s slot) piece ≡ Ok w → (delivered s piece ≡ Ok (wave_at new piece.net)) × (new ≡ with_wave s.waves (wave_at new piece.net)) × (wave_at new piece.net ≡ w)
deliver_put s piece slot w new e n own t =
    let put : (set s.waves slot w ≡ with_wave s.waves w) × (wave_at (set s.waves slot w) piece.net ≡ w) = input_put s piece.net slot w e own in
    let read : wave_at new piece.net ≡ w = ap (λ ws. wave_at ws piece.net) n ∙ put.1 in
    let d : delivered s piece ≡ Ok w = ap (delivered_at s piece) e ∙ ap (λ v. as_delivery (taken v piece)) (sym (input_wave s piece.net slot e)) ∙ ap as_delivery t in
    (d ∙ ap (λ v. Ok v) (sym read), n ∙ put.0 ∙ ap (with_wave s.waves) (sym read), read)

-- and its refusal
pub deliver_refused : (s : Cluster) (piece : Piece) (slot : ℕ) (fault : WaveFault) → input_slot s piece.net ≡ Some slot → RefusesAs fault (taken (slot_wave s slot) piece) → RefusesDelivery (delivery_fault fault) (delivered s piece)
deliver_refused s piece slot fault e r =
    let d : delivered s piece ≡ as_delivery (taken (slot_wave s slot) piece) = ap (delivered_at s piece) e ∙ ap (λ v. as_delivery (taken v piece)) (sym (input_wave s piece.net slot e)) in
    go fault r d
  where
    ok : (t : Result Wave WaveFault) → IsOk t → IsOk (as_delivery t)
    ok (Ok w) h = refl
    ok (Err f) h = h

    go : (f : WaveFault) → RefusesAs f (taken (slot_wave s slot) piece) → delivered s piece ≡ as_delivery (taken (slot_wave s slot) piece) → RefusesDelivery (delivery_fault f) (delivered s piece)
    go (WaveGap clock) r d = d ∙ ap as_delivery r
    go (WaveOld clock) r d = d ∙ ap as_delivery r
    go (WaveClash tick) r d = d ∙ ap as_delivery r
    go WaveMemory r d = subst (λ x. IsOk x) (sym d) (ok (taken (slot_wave s slot) piece) r)

heard_net : (w : Wave) (promise : Promise) → (heard_wave w promise).net ≡ w.net
heard_net w promise = go (leb promise.upto w.clock) (eqb w.count promise.count)
  where
    go : (a b : Bool) → (cond a w (cond b (wave_up_to w promise.upto) w)).net ≡ w.net
    go true b = refl
    go false true = refl
    go false false = refl

pub hear_put : (s : Cluster) (promise : Promise) (slot : ℕ) (new : List Wave) → input_slot s promise.net ≡ Some slot → new ≡ set s.waves slot (heard_wave (slot_wave s slot) promise) → new ≡ with_wave s.waves (heard_wave (wave_at s.waves promise.net) promise)
hear_put s promise slot new e n =
    n ∙ (input_put s promise.net slot (heard_wave (slot_wave s slot) promise) e (heard_net (slot_wave s slot) promise)).0
    ∙ ap (λ v. with_wave s.waves (heard_wave v promise)) (input_wave s promise.net slot e)

pub hear_answer : (s : Cluster) (promise : Promise) (slot : ℕ) → input_slot s promise.net ≡ Some slot → Ok (hears (slot_wave s slot) promise) ≡ heard_at s promise (input_slot s promise.net)
hear_answer s promise slot e =
    ap (λ v. Ok (hears v promise)) (input_wave s promise.net slot e) ∙ sym (ap (heard_at s promise) e)

-- the same of the waves of nets that are driven here
pub driven_only_is : (s : Cluster) (r : Option ℕ) (slot : ℕ) → driven_only s r ≡ Some slot → (r ≡ Some slot) × (is_given (process_at s slot).rule ≡ false)
driven_only_is s None slot e = cc
driven_only_is s (Some k) slot e = go (is_given (process_at s k).rule) refl e
  where
    go : (b : Bool) → is_given (process_at s k).rule ≡ b → cond b None (Some k) ≡ Some slot → (Some k ≡ Some slot) × (is_given (process_at s slot).rule ≡ false)
    go true q h = cc
    go false q h = let same : k ≡ slot = cc in (h, sym (ap (λ i. is_given (process_at s i).rule) same) ∙ q)

pub output_slot_is : (s : Cluster) (net slot : ℕ) → output_slot s net ≡ Some slot → slot_of s.waves net ≡ Some slot
output_slot_is s net slot e = (driven_only_is s (slot_of s.waves net) slot e).0

pub output_driven : (s : Cluster) (net slot : ℕ) → output_slot s net ≡ Some slot → is_given (process_at s slot).rule ≡ false
output_driven s net slot e = (driven_only_is s (slot_of s.waves net) slot e).1

pub output_wave : (s : Cluster) (net slot : ℕ) → output_slot s net ≡ Some slot → slot_wave s slot ≡ wave_at s.waves net
output_wave s net slot e = (slot_is s.waves net slot (new_wave 0) (output_slot_is s net slot e)).1

-- a net that isn't driven here can't go on
pub other_still : (s : Cluster) (net slot : ℕ) → slot_of s.waves net ≡ Some slot → output_slot s net ≡ None → reach_at s slot ≡ 0
other_still s net slot e none = go (process_at s slot).rule refl
  where
    kept : cond (is_given (process_at s slot).rule) None (Some slot) ≡ None
    kept = ap (driven_only s) (sym e) ∙ none

    go : (rule : ProcessRule) → (process_at s slot).rule ≡ rule → reach_at s slot ≡ 0
    go Given is = rw is refl
    go Input is = let no : Some slot ≡ None = rw is at kept in cc
    go (Gate kind) is = let no : Some slot ≡ None = rw is at kept in cc
    go (Flop first period init) is = let no : Some slot ≡ None = rw is at kept in cc
