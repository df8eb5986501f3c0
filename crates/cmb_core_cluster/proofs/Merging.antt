-- The merge makes the changes of the output.
use Rattle.std.proofs.Common.{◌≡◌, ℕ, suc, ◌+◌, ◌<◌, length, List, [], ◌∷◌, ◌++◌, get_or, take, drop, set, refl, sym, ◌∙◌, ap, arith, min, ◌^◌, ◌-◌}
use Rattle.std.proofs.lemmas.List.{take_more, take_more_set, drop-drop, drop-set-lt, get_or-drop}
use Rattle.cmb_wave.specs.declared.level.Change.{Change}
use Rattle.cmb_core_cluster.specs.declared.merge.Lag.{Lag}
use Rattle.cmb_core_cluster.specs.declared.merge.PinCursor.{PinCursor}
use Rattle.cmb_core_cluster.specs.Inner.Arrivals.{due_of, least_due, pin_at, pins_at, levels}

pub pins_at_append : (ps qs : List PinCursor) (t : ℕ) → pins_at (ps ++ qs) t ≡ pins_at ps t ++ pins_at qs t
pins_at_append [] qs t = refl
pins_at_append (p ∷ ps) qs t = ap (λ ls. pin_at p t ∷ ls) (pins_at_append ps qs t)

pub levels_append : (ps qs : List PinCursor) → levels (ps ++ qs) ≡ levels ps ++ levels qs
levels_append [] qs = refl
levels_append (p ∷ ps) qs = ap (λ ls. p.level ∷ ls) (levels_append ps qs)

pub levels_more : (ps : List PinCursor) (i : ℕ) (d : PinCursor) → i < length ps → levels (take (i + 1) ps) ≡ levels (take i ps) ++ (get_or ps i d).level ∷ []
levels_more ps i d h = ap levels (take_more ps i d h) ∙ levels_append (take i ps) (get_or ps i d ∷ [])

pub length_levels : (ps : List PinCursor) → length (levels ps) ≡ length ps
length_levels [] = refl
length_levels (p ∷ ps) = ap suc (length_levels ps)

length_pins : (ps : List PinCursor) (t : ℕ) → length (pins_at ps t) ≡ length ps
length_pins [] t = refl
length_pins (p ∷ ps) t = ap suc (length_pins ps t)

-- pins that show the same levels are as many
pub length_pins_at : (ps qs : List PinCursor) (t : ℕ) → pins_at ps t ≡ pins_at qs t → length ps ≡ length qs
length_pins_at ps qs t e = sym (length_pins ps t) ∙ ap length e ∙ length_pins qs t

-- one more pin is let on
same_head : (ps qs : List PinCursor) (i : ℕ) (d : PinCursor) → drop i ps ≡ drop i qs → get_or ps i d ≡ get_or qs i d
same_head ps qs i d h =
    let e : i + 0 ≡ i = omega arith in
    let a : get_or (drop i ps) 0 d ≡ get_or ps (i + 0) d = get_or-drop i ps 0 d in
    let b : get_or (drop i qs) 0 d ≡ get_or qs (i + 0) d = get_or-drop i qs 0 d in
    ap (λ k. get_or ps k d) (sym e) ∙ sym a ∙ ap (λ l. get_or l 0 d) h ∙ b ∙ ap (λ k. get_or qs k d) e

pub rest_step : (ps qs : List PinCursor) (i : ℕ) (new : PinCursor) → drop i ps ≡ drop i qs → drop (i + 1) (set ps i new) ≡ drop (i + 1) qs
rest_step ps qs i new h =
    let lt : i < i + 1 = omega arith in
    drop-set-lt (i + 1) ps i new lt ∙ sym (drop-drop 1 i ps) ∙ ap (λ l. drop 1 l) h ∙ drop-drop 1 i qs

pub same_step : (ps qs : List PinCursor) (i : ℕ) (d new : PinCursor) (t : ℕ) → i < length ps → i < length qs → drop i ps ≡ drop i qs → pins_at (take i ps) t ≡ pins_at (take i qs) t → pin_at new t ≡ pin_at (get_or ps i d) t → pins_at (take (i + 1) (set ps i new)) t ≡ pins_at (take (i + 1) qs) t
same_step ps qs i d new t hp hq r h e =
    rw (take_more_set ps i new hp, take_more qs i d hq, pins_at_append (take i ps) (new ∷ []) t, pins_at_append (take i qs) (get_or qs i d ∷ []) t, h, e, same_head ps qs i d r) refl

pub steady_step : (ps : List PinCursor) (i : ℕ) (new : PinCursor) (t : ℕ) → i < length ps → pins_at (take i ps) t ≡ levels (take i ps) → pin_at new t ≡ new.level → pins_at (take (i + 1) (set ps i new)) t ≡ levels (take (i + 1) (set ps i new))
steady_step ps i new t hp h e =
    rw (take_more_set ps i new hp, pins_at_append (take i ps) (new ∷ []) t, levels_append (take i ps) (new ∷ []), h) (ap (λ l. levels (take i ps) ++ l ∷ []) e)

-- a pin without changes has none due
pub due_none : (lag : Lag) (cs : List Change) → length cs ≡ 0 → due_of lag cs ≡ 2 ^ 64 - 1
due_none lag [] e = refl
due_none lag (c ∷ cs) e = cc

due_append : (ps : List PinCursor) (p : PinCursor) (until : ℕ) → least_due (ps ++ p ∷ []) until ≡ min (least_due ps until) (due_of p.lag p.rest.now)
due_append [] p until = omega arith
due_append (q ∷ qs) p until = let rest : least_due (qs ++ p ∷ []) until ≡ min (least_due qs until) (due_of p.lag p.rest.now) = due_append qs p until in omega arith

pub due_step : (ps : List PinCursor) (i : ℕ) (new : PinCursor) (until : ℕ) → i < length ps → least_due (take (i + 1) (set ps i new)) until ≡ min (least_due (take i ps) until) (due_of new.lag new.rest.now)
due_step ps i new until h = rw (take_more_set ps i new h) (due_append (take i ps) new until)
