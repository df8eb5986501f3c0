-- A step keeps a cluster sound.
use Rattle.std.proofs.Common.{◌≡◌, ℕ, ◌+◌, ◌-◌, ◌<◌, ◌≤◌, inl, inr, length, List, [], ◌∷◌, get_or, set, refl, sym, ◌∙◌, ap, subst, arith}
use Rattle.std.proofs.lemmas.Bool.{cases_eq}
use Rattle.std.proofs.lemmas.Bool.Decides.{nat_tests}
use Rattle.std.proofs.lemmas.List.{get_or_read, get_or-set_same, get_or-set_other, length-set}
use Rattle.cmb_wave.specs.declared.level.Level.{Level}
use Rattle.cmb_wave.specs.declared.level.Change.{Change}
use Rattle.cmb_wave.specs.Waveform.{IsTrace}
use Rattle.cmb_wave.specs.Wave.{Wave, new_wave}
use Rattle.cmb_core_cluster.specs.Inner.Spans.{changes_from}
use Rattle.cmb_core_cluster.specs.declared.process.ProcessPin.{ProcessPin}
use Rattle.cmb_core_cluster.specs.declared.process.ProcessRule.{ProcessRule}
use Rattle.cmb_core_cluster.specs.declared.process.ProcessRule.TheVariants.{Given, Input, Gate, Flop}
use Rattle.cmb_design_model.specs.Timing.{sample_upto}
use Rattle.cmb_core_cluster.specs.Step.{wave_at}
use Rattle.cmb_core_cluster.specs.Rows.{Process, AreReady, IsReadyFor, sample_need, slot_of}
use Rattle.cmb_core_cluster.specs.Clusters.{Cluster, IsSameButWaves, IsSound, slot_wave, wave_nets}
use Rattle.cmb_core_cluster.specs.Directory.{IsDirectory, place_in}
use Rattle.cmb_core_cluster.specs.declared.directory.Directory.{Directory}
use Rattle.std.proofs.Math.Seq.{map-set_same}
use Rattle.cmb_core_cluster.proofs.Changes.{trace_of_changes}
use Rattle.cmb_core_cluster.proofs.Skips.{sample_upto_le}
use Rattle.cmb_core_cluster.proofs.Slots.{set_slots, set_bases}

pub step_trace : (f : ℕ → Level) (before : Level) (from until : ℕ) (cs : List Change) → from ≤ until → cs ≡ changes_from f before from (until - from) → IsTrace before from cs until
step_trace f before from until cs h e =
    let whole : from + (until - from) ≡ until = omega arith in
    rw e (rw whole at (trace_of_changes f before from (until - from)))

-- the waves are those that they were, but for a later clock
pub record GoneOn (old new : List Wave) : Type 0 where
  pub count : length new ≡ length old
  pub slots : (net : ℕ) → slot_of new net ≡ slot_of old net
  pub base : (net : ℕ) → (wave_at new net).base ≡ (wave_at old net).base
  pub nets : wave_nets new ≡ wave_nets old
  pub bases : (i : ℕ) → (get_or new i (new_wave 0)).base ≡ (get_or old i (new_wave 0)).base
  pub clock : (i : ℕ) → (get_or old i (new_wave 0)).clock ≤ (get_or new i (new_wave 0)).clock

pub gone_on_set : (old : List Wave) (n : ℕ) (w : Wave) → n < length old → w.net ≡ (get_or old n (new_wave 0)).net → w.base ≡ (get_or old n (new_wave 0)).base → (get_or old n (new_wave 0)).clock ≤ w.clock → GoneOn old (set old n w)
gone_on_set old n w h e b k = record {
  count = length-set old n w;
  slots = λ net. set_slots old n w (new_wave 0) h e net;
  base = λ net. set_bases old n w (new_wave 0) h e b net;
  nets = map-set_same (λ v. v.net) old n w (new_wave 0) e;
  bases = λ i. elim (cases_eq i n) [
    | inl e ↦ rw (e, get_or-set_same old n w (new_wave 0) h) b
    | inr ne ↦ rw (get_or-set_other old n i w (new_wave 0) ne) refl
  ];
  clock = λ i. elim (cases_eq i n) [
    | inl e ↦ rw (e, get_or-set_same old n w (new_wave 0) h) k
    | inr ne ↦ rw (get_or-set_other old n i w (new_wave 0) ne) (omega arith)
  ];
}

are_ready_still : (old new : List Wave) (clock later : ℕ) (os : List ProcessPin) → GoneOn old new → clock ≤ later → AreReady old clock os → AreReady new later os
are_ready_still old new clock later [] g h r = tt
are_ready_still old new clock later (o ∷ os) g h r =
    let kept : (wave_at old o.net).base ≤ clock - o.delay = r.0.1 in
    ((g.slots o.net ∙ r.0.0, omega (arith, g.base o.net)), are_ready_still old new clock later os g h r.1)

sample_need_le : (first period delay clock later : ℕ) → 0 < period → clock ≤ later → sample_need first period delay clock ≤ sample_need first period delay later
sample_need_le first period delay clock later pos h =
    let samples : sample_upto first period (clock - delay) ≤ sample_upto first period (later - delay) = sample_upto_le first period (clock - delay) (later - delay) pos (omega arith) in
    grind (arith, nat_tests)

pub ready_still : (old new : List Wave) (clock later : ℕ) (rule : ProcessRule) (os : List ProcessPin) (cs : List Change) → GoneOn old new → clock ≤ later → IsReadyFor old clock rule os cs → IsReadyFor new later rule os cs
ready_still old new clock later Given os cs g h r = tt
ready_still old new clock later Input os cs g h r = r
ready_still old new clock later (Gate kind) os cs g h r = (r.0, are_ready_still old new clock later os g h r.1)
ready_still old new clock later (Flop first period init) [] cs g h r = absurd r
ready_still old new clock later (Flop first period init) (o ∷ []) cs g h r =
    let more : sample_need first period o.delay clock ≤ sample_need first period o.delay later = sample_need_le first period o.delay clock later r.0 h in
    let kept : (wave_at old o.net).base ≤ sample_need first period o.delay clock = r.2 in
    (r.0, g.slots o.net ∙ r.1, omega (arith, g.base o.net))
ready_still old new clock later (Flop first period init) (o ∷ p ∷ os) cs g h r = absurd r

-- the place of a net's wave is that of its net
pub slot_place : (waves : List Wave) (net : ℕ) → slot_of waves net ≡ place_in (wave_nets waves) net
slot_place [] net = refl
slot_place (w ∷ ws) net = rw (slot_place ws net) refl

pub directory_stays : (processes : List Process) (old new : List Wave) (directory : Directory) → wave_nets new ≡ wave_nets old → IsDirectory processes (wave_nets old) directory → IsDirectory processes (wave_nets new) directory
directory_stays processes old new directory e a = let P : List ℕ → Type 0 = λ nets. IsDirectory processes nets directory in subst P (sym e) a

-- a cluster stays sound where its waves go on
pub sound_still : (horizon : ℕ) (processes : List Process) (old new : List Wave) → GoneOn old new → IsSound (record { horizon = horizon; processes = processes; waves = old }) → IsSound (record { horizon = horizon; processes = processes; waves = new })
sound_still horizon processes old new g s = record {
  paired = g.count ∙ s.paired;
  whole = λ i h driven. g.bases i ∙ s.whole i h driven;
  ready = λ i h. ready_still old new _ _ _ _ _ g (g.clock i) (s.ready i h);
}

-- and where one of them is put in its place anew
pub record IsKept (horizon : ℕ) (processes : List Process) (directory : Directory) (old new : List Wave) : Type 0 where
  pub sound : IsSound (record { horizon = horizon; processes = processes; waves = new })
  pub listed : IsDirectory processes (wave_nets new) directory
  pub nets : wave_nets new ≡ wave_nets old

pub kept_by_set : (horizon : ℕ) (processes : List Process) (directory : Directory) (old new : List Wave) (n : ℕ) (w : Wave) → new ≡ set old n w → n < length old
    → w.net ≡ (get_or old n (new_wave 0)).net → w.base ≡ (get_or old n (new_wave 0)).base → (get_or old n (new_wave 0)).clock ≤ w.clock
    → IsSound (record { horizon = horizon; processes = processes; waves = old }) → IsDirectory processes (wave_nets old) directory → IsKept horizon processes directory old new
kept_by_set horizon processes directory old new n w e h net base later sound listed =
    let P : List Wave → Type 0 = λ ws. IsKept horizon processes directory old ws in
    let gone = gone_on_set old n w h net base later in
    subst P (sym e) (record {
      sound = sound_still horizon processes old (set old n w) gone sound;
      listed = directory_stays processes old (set old n w) directory gone.nets listed;
      nets = gone.nets;
    })

-- a wave that was read is that of the cluster
pub read_as : (s : Cluster) (horizon : ℕ) (processes : List Process) (waves : List Wave) (n : ℕ) (w : Wave)
    → record { horizon = horizon; processes = processes; waves = waves } ≡ s → n < length s.waves → w ≡ get_or waves n w → w ≡ slot_wave s n
read_as s horizon processes waves n w view within is =
    let there : n < length waves = omega (arith, ap (λ s. length s.waves) view, within) in
    get_or_read _ _ _ there is (new_wave 0) ∙ ap (λ s. slot_wave s n) view

-- the same of a wave that was lent, and came back later
pub kept_by_loan : (s : Cluster) (horizon : ℕ) (processes : List Process) (directory : Directory) (old : List Wave) (n : ℕ) (lent w : Wave)
    → record { horizon = horizon; processes = processes; waves = old } ≡ s → n < length s.waves → lent ≡ get_or old n lent
    → w.net ≡ lent.net → w.base ≡ lent.base → lent.clock ≤ w.clock
    → IsSound (record { horizon = horizon; processes = processes; waves = old }) → IsDirectory processes (wave_nets old) directory → IsKept horizon processes directory old (set old n w)
kept_by_loan s horizon processes directory old n lent w view within was net base later sound listed =
    let h : n < length old = omega (arith, ap (λ s. length s.waves) view, within) in
    let is : lent ≡ get_or old n (new_wave 0) = get_or_read old n lent h was (new_wave 0) in
    kept_by_set horizon processes directory old (set old n w) n w refl h (net ∙ ap (λ (v : Wave). v.net) is) (base ∙ ap (λ (v : Wave). v.base) is) (omega (arith, later, ap (λ (v : Wave). v.clock) is)) sound listed

-- what stays of the cluster then
pub kept_same : (s : Cluster) (horizon : ℕ) (processes : List Process) (directory : Directory) (old new : List Wave)
    → record { horizon = horizon; processes = processes; waves = old } ≡ s → IsKept horizon processes directory old new
    → IsSameButWaves s (record { horizon = horizon; processes = processes; waves = new })
kept_same s horizon processes directory old new view kept = record {
  horizon = ap (λ s. s.horizon) view;
  processes = ap (λ s. s.processes) view;
  nets = kept.nets ∙ ap (λ s. wave_nets s.waves) view;
}
