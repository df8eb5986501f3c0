-- A wave in the place of that of its net, among waves.
use Rattle.std.proofs.Common.{◌≡◌, ℕ, Bool, true, false, ◌||◌, cond, eqb, List, [], ◌∷◌, refl, ap, sym, ◌∙◌}
use Rattle.std.specs.List.{AllByRecursion, list_any}
use Rattle.std.proofs.lemmas.Bool.{eqb-true, eq-eqb, ne_eqb, cond_both}
use Rattle.cmb_wave.specs.Wave.{Wave}
use Rattle.cmb_core_cluster.specs.Step.{wave_at, with_wave}

abbrev pub has_wave : List Wave → ℕ → Bool
has_wave waves net = list_any (λ wave. eqb wave.net net) waves

pub wave_at-with_same : (waves : List Wave) (wave : Wave) → has_wave waves wave.net ≡ true → wave_at (with_wave waves wave) wave.net ≡ wave
wave_at-with_same [] wave has = cc
wave_at-with_same (first ∷ waves) wave has = go (eqb first.net wave.net) refl (wave_at-with_same waves wave) has
  where
    go : (b : Bool) → eqb first.net wave.net ≡ b → (has_wave waves wave.net ≡ true → wave_at (with_wave waves wave) wave.net ≡ wave) → (b || has_wave waves wave.net) ≡ true → wave_at (cond b (wave ∷ waves) (first ∷ with_wave waves wave)) wave.net ≡ wave
    go true e rest h = let same : eqb wave.net wave.net ≡ true = eq-eqb wave.net wave.net refl in rw same
    go false e rest h = rw e (rest h)

pub wave_at-with_other : (waves : List Wave) (wave : Wave) (other : ℕ) → (other ≡ wave.net → ⊥) → wave_at (with_wave waves wave) other ≡ wave_at waves other
wave_at-with_other [] wave other ne = refl
wave_at-with_other (first ∷ waves) wave other ne = go (eqb first.net wave.net) refl (wave_at-with_other waves wave other ne)
  where
    go : (b : Bool) → eqb first.net wave.net ≡ b → wave_at (with_wave waves wave) other ≡ wave_at waves other → wave_at (cond b (wave ∷ waves) (first ∷ with_wave waves wave)) other ≡ cond (eqb first.net other) first (wave_at waves other)
    go true e rest =
        let same : first.net ≡ wave.net = eqb-true first.net wave.net e in
        let a : eqb wave.net other ≡ false = ne_eqb wave.net other (λ q. ne (sym q)) in
        let b : eqb first.net other ≡ false = ne_eqb first.net other (λ q. ne (sym q ∙ same)) in
        rw (a, b)
    go false e rest = ap (λ (w : Wave). cond (eqb first.net other) first w) rest

pub has_wave-with : (waves : List Wave) (wave : Wave) (net : ℕ) → has_wave (with_wave waves wave) net ≡ has_wave waves net
has_wave-with [] wave net = refl
has_wave-with (first ∷ waves) wave net = go (eqb first.net wave.net) refl (has_wave-with waves wave net)
  where
    go : (b : Bool) → eqb first.net wave.net ≡ b → has_wave (with_wave waves wave) net ≡ has_wave waves net → has_wave (cond b (wave ∷ waves) (first ∷ with_wave waves wave)) net ≡ (eqb first.net net || has_wave waves net)
    go true e rest = ap (λ (n : ℕ). eqb n net || has_wave waves net) (sym (eqb-true first.net wave.net e))
    go false e rest = ap (λ (h : Bool). eqb first.net net || h) rest

pub all-with : (P : Wave → Type 0) (waves : List Wave) (wave : Wave) → P wave → AllByRecursion P waves → AllByRecursion P (with_wave waves wave)
all-with P [] wave p all = tt
all-with P (first ∷ waves) wave p all =
    cond_both (eqb first.net wave.net) (wave ∷ waves) (first ∷ with_wave waves wave) (AllByRecursion P) (λ yes. (p, all.1)) (λ no. (all.0, all-with P waves wave p all.1))
