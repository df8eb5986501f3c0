-- The pins of a process, one after another.
use Rattle.std.proofs.Common.{◌≡◌, ℕ, ◌+◌, ◌<◌, min, length, List, [], ◌∷◌, ◌++◌, get_or, take, drop, refl, ap, subst}
use Rattle.std.proofs.lemmas.List.{take_more, drop_more}
use Rattle.cmb_wave.specs.Wave.{Wave}
use Rattle.cmb_core_cluster.specs.declared.merge.PinCursor.{PinCursor}
use Rattle.cmb_core_cluster.specs.declared.process.ProcessPin.{ProcessPin}
use Rattle.cmb_core_cluster.specs.Inner.Arrivals.{pin_at, pins_at}
use Rattle.cmb_core_cluster.specs.Step.{wave_at}
use Rattle.cmb_core_cluster.specs.Rows.{AreReady}
use Rattle.cmb_core_cluster.specs.Inner.Processes.{delayed_wave, delayed_levels, gate_reach}
use Rattle.cmb_core_cluster.proofs.Merging.{pins_at_append}

pub delayed_levels_append : (waves : List Wave) (os qs : List ProcessPin) (t : ℕ) → delayed_levels waves (os ++ qs) t ≡ delayed_levels waves os t ++ delayed_levels waves qs t
delayed_levels_append waves [] qs t = refl
delayed_levels_append waves (o ∷ os) qs t = ap (λ ls. delayed_wave (wave_at waves o.net) o.delay t ∷ ls) (delayed_levels_append waves os qs t)

pub late_step : (waves : List Wave) (ps : List PinCursor) (p : PinCursor) (os : List ProcessPin) (i : ℕ) (d : ProcessPin) (t : ℕ) → i < length os → pins_at ps t ≡ delayed_levels waves (take i os) t → pin_at p t ≡ delayed_wave (wave_at waves (get_or os i d).net) (get_or os i d).delay t → pins_at (ps ++ p ∷ []) t ≡ delayed_levels waves (take (i + 1) os) t
late_step waves ps p os i d t h e k =
    rw (take_more os i d h, delayed_levels_append waves (take i os) (get_or os i d ∷ []) t, pins_at_append ps (p ∷ []) t, e, k) refl

pub ready_step : (waves : List Wave) (clock : ℕ) (os : List ProcessPin) (i : ℕ) (d : ProcessPin) → i < length os → AreReady waves clock (drop i os) → AreReady waves clock (drop (i + 1) os)
ready_step waves clock os i d h r =
    let P : List ProcessPin → Type 0 = λ xs. AreReady waves clock xs in
    let more : AreReady waves clock (get_or os i d ∷ drop (i + 1) os) = subst P (drop_more os i d h) r in
    more.1

-- how far the operands from a place on are known, and the first of them
pub reach_step : (horizon : ℕ) (waves : List Wave) (os : List ProcessPin) (i : ℕ) (d : ProcessPin) → i < length os
    → gate_reach horizon waves (drop i os) ≡ min ((wave_at waves (get_or os i d).net).clock + (get_or os i d).delay) (gate_reach horizon waves (drop (i + 1) os))
reach_step horizon waves os i d h = ap (gate_reach horizon waves) (drop_more os i d h)
