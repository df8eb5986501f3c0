-- Waves by their net and by their place.
use Rattle.std.proofs.Common.{◌≡◌, ℕ, zero, suc, ◌<◌, Bool, true, false, cond, eqb, length, List, [], ◌∷◌, get_or, set, Option, Some, None, refl, ap, arith}
use Rattle.std.specs.Prelude.{option_map}
use Rattle.std.proofs.lemmas.Bool.{eqb-true}
use Rattle.cmb_wave.specs.Wave.{Wave, new_wave}
use Rattle.cmb_core_cluster.specs.Step.{wave_at, with_wave}
use Rattle.cmb_core_cluster.specs.Rows.{slot_of}

-- the place of a net's wave is there, and has that wave
pub slot_is : (waves : List Wave) (net slot : ℕ) (d : Wave) → slot_of waves net ≡ Some slot → (slot < length waves) × (get_or waves slot d ≡ wave_at waves net)
slot_is [] net slot d e = cc
slot_is (w ∷ ws) net slot d e = go (eqb w.net net) (slot_of ws net) refl (λ i q. slot_is ws net i d q) e
  where
    go : (b : Bool) (r : Option ℕ) → slot_of ws net ≡ r → ((i : ℕ) → slot_of ws net ≡ Some i → (i < length ws) × (get_or ws i d ≡ wave_at ws net)) → cond b (Some 0) (option_map (λ i. suc i) r) ≡ Some slot → (slot < suc (length ws)) × (get_or (w ∷ ws) slot d ≡ cond b w (wave_at ws net))
    go true r q rest h = let z : slot ≡ 0 = cc in rw z (omega arith, refl)
    go false (Some i) q rest h =
        let z : slot ≡ suc i = cc in
        let there : (i < length ws) × (get_or ws i d ≡ wave_at ws net) = rest i q in
        rw z (omega (arith, there.0), there.1)
    go false None q rest h = cc

pub slot_there : (waves : List Wave) (net slot : ℕ) → slot_of waves net ≡ Some slot → slot < length waves
slot_there waves net slot e = (slot_is waves net slot (new_wave 0) e).0

pub slot_wave : (waves : List Wave) (net slot : ℕ) (d : Wave) → slot_of waves net ≡ Some slot → get_or waves slot d ≡ wave_at waves net
slot_wave waves net slot d e = (slot_is waves net slot d e).1

-- the wave of a net that is there has that net
pub slot_net : (waves : List Wave) (net slot : ℕ) → slot_of waves net ≡ Some slot → (wave_at waves net).net ≡ net
slot_net [] net slot e = cc
slot_net (w ∷ ws) net slot e = go (eqb w.net net) refl (slot_of ws net) refl (λ i q. slot_net ws net i q) e
  where
    go : (b : Bool) → eqb w.net net ≡ b → (r : Option ℕ) → slot_of ws net ≡ r → ((i : ℕ) → slot_of ws net ≡ Some i → (wave_at ws net).net ≡ net) → cond b (Some 0) (option_map (λ i. suc i) r) ≡ Some slot → (cond b w (wave_at ws net)).net ≡ net
    go true e r q rest h = eqb-true w.net net e
    go false e (Some i) q rest h = rest i q
    go false e None q rest h = cc

-- another wave of the same net in its place
pub set_slots : (waves : List Wave) (i : ℕ) (w d : Wave) → i < length waves → w.net ≡ (get_or waves i d).net → (net : ℕ) → slot_of (set waves i w) net ≡ slot_of waves net
set_slots [] i w d h e net = absurd (omega arith)
set_slots (x ∷ xs) zero w d h e net = rw e refl
set_slots (x ∷ xs) (suc i) w d h e net = rw (set_slots xs i w d (omega arith) e net) refl

pub set_bases : (waves : List Wave) (i : ℕ) (w d : Wave) → i < length waves → w.net ≡ (get_or waves i d).net → w.base ≡ (get_or waves i d).base → (net : ℕ) → (wave_at (set waves i w) net).base ≡ (wave_at waves net).base
set_bases [] i w d h e b net = absurd (omega arith)
set_bases (x ∷ xs) zero w d h e b net = go (eqb w.net net) (eqb x.net net) (ap (λ n. eqb n net) e)
  where
    go : (a c : Bool) → a ≡ c → (cond a w (wave_at xs net)).base ≡ (cond c x (wave_at xs net)).base
    go true true q = b
    go false false q = refl
    go true false q = cc
    go false true q = cc
set_bases (x ∷ xs) (suc i) w d h e b net = go (eqb x.net net) (set_bases xs i w d (omega arith) e b net)
  where
    go : (c : Bool) → (wave_at (set xs i w) net).base ≡ (wave_at xs net).base → (cond c x (wave_at (set xs i w) net)).base ≡ (cond c x (wave_at xs net)).base
    go true rest = refl
    go false rest = rest

pub set_with : (waves : List Wave) (i : ℕ) (w : Wave) → slot_of waves w.net ≡ Some i → set waves i w ≡ with_wave waves w
set_with [] i w e = cc
set_with (x ∷ xs) i w e = go (eqb x.net w.net) (slot_of xs w.net) refl (λ k q. set_with xs k w q) e
  where
    go : (b : Bool) (r : Option ℕ) → slot_of xs w.net ≡ r → ((k : ℕ) → slot_of xs w.net ≡ Some k → set xs k w ≡ with_wave xs w) → cond b (Some 0) (option_map (λ k. suc k) r) ≡ Some i → set (x ∷ xs) i w ≡ cond b (w ∷ xs) (x ∷ with_wave xs w)
    go true r q rest h = let z : i ≡ 0 = cc in rw z refl
    go false (Some k) q rest h = let z : i ≡ suc k = cc in rw z (ap (λ ws. x ∷ ws) (rest k q))
    go false None q rest h = cc
