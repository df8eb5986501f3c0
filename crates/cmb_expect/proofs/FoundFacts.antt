-- The levels that were found for probes.
use Rattle.std.proofs.Common.{◌≡◌, ℕ, suc, ◌+◌, ◌<◌, ◌≤◌, List, length, map, get_or, set, ◌⊎◌, inl, inr, refl, sym, ap, subst, ◌∙◌, arith}
use Rattle.std.specs.Prelude.{All}
use Rattle.std.proofs.lemmas.Bool.{cases_eq, cases_lt}
use Rattle.std.proofs.lemmas.List.{get_or_default, get_or-map, get_or-set_other, get_or-set_same, length-map, same_lists}
use Rattle.std.proofs.lemmas.List.Elements.{All-contains}
use Rattle.cmb_wave.specs.declared.level.Level.{Level}
use Rattle.cmb_design_model.specs.Design.{Design}
use Rattle.cmb_design_model.specs.Value.{value}
use Rattle.cmb_expect.specs.Expectations.{level_found}
use Rattle.cmb_design_model.specs.declared.expected.Expected.{Expected}
use Rattle.cmb_expect.specs.declared.probe.Probe.{Probe}
use Rattle.cmb_expect.specs.Inner.Probes.{AreFound, AreLater, AreLawful, AreProbes, AreRising, probe_of}

-- the ticks of the probes behind one aren't below its own
pub later_at : (clock : ℕ) (probes : List Probe) (done : ℕ) (p : Probe) → AreRising probes → done < length probes → p ≡ get_or probes done p → clock ≤ p.tick → AreLater clock probes done
later_at clock probes done p rising within is late i d after below =
    let same : p ≡ get_or probes done d = is ∙ get_or_default probes done p d within in
    omega (arith, rising done i d after below, late, ap (λ (q : Probe). q.tick) same)

pub later_none : (clock : ℕ) (probes : List Probe) (done : ℕ) → length probes ≤ done → AreLater clock probes done
later_none clock probes done all i d after below = absurd (omega (arith, all, after, below))

-- the level for one probe more
pub found_more : (level : ℕ → ℕ → Level) (nets horizon : ℕ) (probes : List Probe) (done : ℕ) (p : Probe) (found : List Level) (new : Level) → AreLawful nets (length found) horizon probes
    → done < length probes → p ≡ get_or probes done p → new ≡ level p.net p.tick → AreFound level probes done found → AreFound level probes (done + 1) (set found p.place new)
found_more level nets horizon probes done p found new lawful inside at is so_far i q d below within =
    go (get_or probes i q) refl (cases_eq (get_or probes i q).place p.place) (cases_lt i done)
  where
    this : p ≡ get_or probes done q
    this = at ∙ get_or_default probes done p q inside

    place : p.place < length found
    place = let here : (get_or probes done p).place < length found = (lawful.each done p inside).1 in omega (arith, here, ap (λ (r : Probe). r.place) at)

    go : (r : Probe) → get_or probes i q ≡ r → (r.place ≡ p.place) ⊎ (r.place ≡ p.place → ⊥) → (i < done) ⊎ (done ≤ i)
        → get_or (set found p.place new) r.place d ≡ level r.net r.tick
    go r e (inl same) _ =
        let one : r ≡ p = sym e ∙ lawful.apart i done q within inside (ap (λ (s : Probe). s.place) e ∙ same ∙ ap (λ (s : Probe). s.place) this) ∙ sym this in
        subst (λ (s : Probe). get_or (set found p.place new) s.place d ≡ level s.net s.tick) (sym one) (get_or-set_same found p.place new d place ∙ is)
    go r e (inr differs) (inl early) =
        get_or-set_other found p.place r.place new d differs
        ∙ subst (λ (s : Probe). get_or found s.place d ≡ level s.net s.tick) e (so_far i q d early within)
    go r e (inr differs) (inr late) =
        let same : i ≡ done = omega (arith, late, below) in
        absurd (differs (ap (λ (s : Probe). s.place) (sym e ∙ ap (λ (k : ℕ). get_or probes k q) same ∙ sym this)))

-- the level at a probe's place is that of its net at its tick
abbrev IsRight : Design → List Level → Probe → Type 0
IsRight design found p = (d : Level) → get_or found p.place d ≡ value design p.net p.tick

-- all levels are found
pub all_found : (design : Design) (rows : List Expected) (probes : List Probe) (found : List Level) → AreProbes rows probes → length found ≡ length rows
    → AreFound (value design) probes (length probes) found → found ≡ map (level_found design) rows
all_found design rows probes found are long is = same_lists found (map (level_found design) rows) (long ∙ sym (length-map rows (level_found design))) each
  where
    right : All (IsRight design found) probes
    right i p within d = is i p d within within

    each : (k : ℕ) (d : Level) → k < length found → get_or found k d ≡ get_or (map (level_found design) rows) k d
    each k d within =
        let e : Expected = record { tick = 0; net = 0; level = d } in
        let below : k < length rows = omega (arith, within, long) in
        All-contains (IsRight design found) probes (probe_of (get_or rows k e) k) right (are.whole k e below) d
        ∙ sym (get_or-map (level_found design) rows k e d below)
