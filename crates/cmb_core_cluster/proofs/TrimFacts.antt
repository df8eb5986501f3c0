-- A trim keeps what is still needed.
use Rattle.std.proofs.Common.{◌≡◌, ℕ, zero, suc, ◌+◌, ◌-◌, ◌<◌, ◌≤◌, min, Bool, true, false, cond, eqb, ltb, List, [], ◌∷◌, ◌⊎◌, inl, inr, length, get_or, set, map, refl, sym, ◌∙◌, ap, subst, arith, get_or-set_same, get_or-set_other, length-set}
use Rattle.std.specs.List.{AllByRecursion, range_with_len}
use Rattle.std.proofs.lemmas.Bool.{eq-eqb, ne_eqb, cases_eq, cases_lt, lt-ltb, le-ltb}
use Rattle.std.specs.Prelude.{All}
use Rattle.std.proofs.Common.{Vec, Global}
use Rattle.std.proofs.lemmas.List.{get_or-map}
use Rattle.std.proofs.lemmas.List.Elements.{All-from_recursion}
use Rattle.std.proofs.lemmas.List.FromFn.{fill_by_all, length-map-range_with_len, get_or-map-range_with_len}
use Rattle.cmb_core_cluster.specs.declared.directory.Directory.{Directory}
use Rattle.cmb_wave.specs.declared.level.Change.{Change}
use Rattle.cmb_wave.specs.declared.level.Level.{Level}
use Rattle.cmb_wave.specs.Wave.{Wave, new_wave, wave_from}
use Rattle.cmb_core_cluster.specs.declared.process.ProcessPin.{ProcessPin}
use Rattle.cmb_core_cluster.specs.declared.process.ProcessRule.{ProcessRule}
use Rattle.cmb_core_cluster.specs.declared.process.ProcessRule.TheVariants.{Given, Input, Gate, Flop}
use Rattle.cmb_core_cluster.specs.declared.directory.Reader.{Reader}
use Rattle.cmb_core_cluster.specs.Clusters.{Cluster, IsSound, IsSameButWaves, slot_wave, process_at}
use Rattle.cmb_core_cluster.specs.Rows.{Process, IsThere, AreReady, IsReadyFor, sample_need, is_given}
use Rattle.cmb_core_cluster.specs.Step.{wave_at}
use Rattle.cmb_core_cluster.specs.Directory.{given_at, pins_on, readers_from, listed_readers, IsDirectory}
use Rattle.cmb_core_cluster.specs.Trims.{need, need_at, least_need, trimmed_to, trimmed_wave, trimmed, IsTrim, AreTrims}
use Rattle.std.proofs.lemmas.List.{length-map}
use Rattle.cmb_core_cluster.proofs.ClusterLemmas.{gone_on_set, sound_still}
use Rattle.cmb_core_cluster.proofs.Everywhere.{all_append, all_back, all_front}
use Rattle.cmb_core_cluster.proofs.Slots.{slot_wave as read_slot, set_slots}

-- ---- the least need is below each need

pub least_clock : (ps : List Process) (ws : List Wave) (rs : List Reader) (most : ℕ) → least_need ps ws rs most ≤ most
least_clock ps ws [] most = omega arith
least_clock ps ws (r ∷ rs) most = omega (arith, least_clock ps ws rs (min most (need_at ps ws r)))

least_each : (ps : List Process) (ws : List Wave) (rs : List Reader) (most : ℕ) → AllByRecursion (λ r. least_need ps ws rs most ≤ need_at ps ws r) rs
least_each ps ws [] most = tt
least_each ps ws (r ∷ rs) most = (omega (arith, least_clock ps ws rs (min most (need_at ps ws r))), least_each ps ws rs (min most (need_at ps ws r)))

-- the pins of the process in a place are among those of all
pins_among : (P : Reader → Type 0) (place slot k : ℕ) (ps : List Process) (d : Process) → k < length ps → AllByRecursion P (readers_from place slot ps) → AllByRecursion P (pins_on place (slot + k) (get_or ps k d).operands)
pins_among P place slot k [] d h a = absurd (omega arith)
pins_among P place slot zero (p ∷ ps) d h a =
    let e : slot ≡ slot + 0 = omega arith in
    let Q : ℕ → Type 0 = λ n. AllByRecursion P (pins_on place n p.operands) in
    subst Q e (all_front P (pins_on place slot p.operands) (readers_from place (suc slot) ps) a)
pins_among P place slot (suc k) (p ∷ ps) d h a =
    let e : suc slot + k ≡ slot + suc k = omega arith in
    let Q : ℕ → Type 0 = λ n. AllByRecursion P (pins_on place n (get_or ps k d).operands) in
    subst Q e (pins_among P place (suc slot) k ps d (omega arith) (all_back P (pins_on place slot p.operands) (readers_from place (suc slot) ps) a))

-- ---- a process is ready over the waves of which one forgot

module _ (ws : List Wave) (i least : ℕ) (w : Wave) (h : i < length ws) (net : w.net ≡ (get_or ws i (new_wave 0)).net) (base : w.base ≡ least) where
  abbrev after : List Wave
  after = set ws i w

  there_still : (o : ProcessPin) → IsThere ws o → IsThere after o
  there_still o t = set_slots ws i w (new_wave 0) h net o.net ∙ t

  base_here : (o : ProcessPin) → IsThere ws o → o.slot ≡ i → (wave_at after o.net).base ≡ least
  base_here o t e =
      ap (λ v. v.base) (sym (read_slot after o.net o.slot (new_wave 0) (there_still o t)) ∙ ap (λ k. get_or after k (new_wave 0)) e ∙ get_or-set_same ws i w (new_wave 0) h) ∙ base

  base_other : (o : ProcessPin) → IsThere ws o → (o.slot ≡ i → ⊥) → (wave_at after o.net).base ≡ (wave_at ws o.net).base
  base_other o t ne =
      ap (λ v. v.base) (sym (read_slot after o.net o.slot (new_wave 0) (there_still o t)) ∙ get_or-set_other ws i o.slot w (new_wave 0) ne ∙ read_slot ws o.net o.slot (new_wave 0) t)

  gate_still : (slot clock : ℕ) (os : List ProcessPin) → AreReady ws clock os → AllByRecursion (λ r. least ≤ clock - r.delay) (pins_on i slot os) → AreReady after clock os
  gate_still slot clock [] r a = tt
  gate_still slot clock (o ∷ os) r a = go (cases_eq o.slot i) (λ b. gate_still slot clock os r.1 b)
    where
      go : (o.slot ≡ i) ⊎ (o.slot ≡ i → ⊥) → (AllByRecursion (λ r. least ≤ clock - r.delay) (pins_on i slot os) → AreReady after clock os) → AreReady after clock (o ∷ os)
      go (inl same) rest =
          let e : eqb o.slot i ≡ true = eq-eqb _ _ same in
          let b = rw e at a in
          ((there_still o r.0.0, omega (arith, base_here o r.0.0 same, b.0)), rest b.1)
      go (inr ne) rest =
          let e : eqb o.slot i ≡ false = ne_eqb _ _ ne in
          let b = rw e at a in
          let kept : (wave_at ws o.net).base ≤ clock - o.delay = r.0.1 in
          ((there_still o r.0.0, omega (arith, base_other o r.0.0 ne)), rest b)

  flop_still : (slot clock first period : ℕ) (init : Level) (os : List ProcessPin) (cs : List Change) → IsReadyFor ws clock (Flop first period init) os cs → AllByRecursion (λ r. least ≤ sample_need first period r.delay clock) (pins_on i slot os) → IsReadyFor after clock (Flop first period init) os cs
  flop_still slot clock first period init [] cs r a = absurd r
  flop_still slot clock first period init (o ∷ []) cs r a = go (cases_eq o.slot i)
    where
      go : (o.slot ≡ i) ⊎ (o.slot ≡ i → ⊥) → IsReadyFor after clock (Flop first period init) (o ∷ []) cs
      go (inl same) =
          let e : eqb o.slot i ≡ true = eq-eqb _ _ same in
          let b = rw e at a in
          (r.0, there_still o r.1, omega (arith, base_here o r.1 same, b.0))
      go (inr ne) =
          let kept : (wave_at ws o.net).base ≤ sample_need first period o.delay clock = r.2 in
          (r.0, there_still o r.1, omega (arith, base_other o r.1 ne))
  flop_still slot clock first period init (o ∷ q ∷ os) cs r a = absurd r

  pub ready_trimmed : (slot clock : ℕ) (rule : ProcessRule) (os : List ProcessPin) (cs : List Change) → IsReadyFor ws clock rule os cs → AllByRecursion (λ r. least ≤ need rule r.delay clock) (pins_on i slot os) → IsReadyFor after clock rule os cs
  ready_trimmed slot clock Given os cs r a = tt
  ready_trimmed slot clock Input os cs r a = r
  ready_trimmed slot clock (Gate kind) os cs r a = (r.0, gate_still slot clock os r.1 a)
  ready_trimmed slot clock (Flop first period init) os cs r a = flop_still slot clock first period init os cs r a

-- the needs of the pins of one process
needs_of : (ps : List Process) (ws : List Wave) (least place slot : ℕ) (os : List ProcessPin) → AllByRecursion (λ r. least ≤ need_at ps ws r) (pins_on place slot os)
    → AllByRecursion (λ r. least ≤ need (get_or ps slot (record { rule = Given; operands = []; stimulus = [] })).rule r.delay (get_or ws slot (new_wave 0)).clock) (pins_on place slot os)
needs_of ps ws least place slot [] a = tt
needs_of ps ws least place slot (o ∷ os) a = go (eqb o.slot place) a (λ b. needs_of ps ws least place slot os b)
  where
    go : (b : Bool) → AllByRecursion (λ r. least ≤ need_at ps ws r) (cond b (record { slot = slot; delay = o.delay } ∷ pins_on place slot os) (pins_on place slot os))
        → (AllByRecursion (λ r. least ≤ need_at ps ws r) (pins_on place slot os) → AllByRecursion (λ r. least ≤ need (get_or ps slot (record { rule = Given; operands = []; stimulus = [] })).rule r.delay (get_or ws slot (new_wave 0)).clock) (pins_on place slot os))
        → AllByRecursion (λ r. least ≤ need (get_or ps slot (record { rule = Given; operands = []; stimulus = [] })).rule r.delay (get_or ws slot (new_wave 0)).clock) (cond b (record { slot = slot; delay = o.delay } ∷ pins_on place slot os) (pins_on place slot os))
    go true x rest = (x.0, rest x.1)
    go false x rest = rest x

-- ---- a cluster stays sound as one of its given waves forgets

-- what a wave keeps that forgets, a trimmed one does
pub trim_keeps : (of : Wave → ℕ) (least : ℕ) (w : Wave) → of (wave_from w least) ≡ of w → of (trimmed_to least w) ≡ of w
trim_keeps of least w same = go (ltb w.base least)
  where
    go : (b : Bool) → of (cond b (wave_from w least) w) ≡ of w
    go true = same
    go false = refl

pub trim_net : (least : ℕ) (w : Wave) → (trimmed_to least w).net ≡ w.net
trim_net least w = trim_keeps (λ v. v.net) least w refl

pub trim_clock : (least : ℕ) (w : Wave) → (trimmed_to least w).clock ≡ w.clock
trim_clock least w = trim_keeps (λ v. v.clock) least w refl

-- nothing is below tick 0, so that nothing is forgotten
trim_zero : (wave : Wave) → wave ≡ trimmed_to 0 wave
trim_zero wave = let e : ltb wave.base 0 ≡ false = le-ltb _ _ (omega arith) in rw e refl

pub trim_same : (wave : Wave) → IsTrim wave wave
trim_same wave = (0, omega arith, trim_zero wave)

pub trim_sound : (s : Cluster) → IsSound s → (i : ℕ) → i < length s.waves → is_given (process_at s i).rule ≡ true
    → IsSound (record s { waves = set s.waves i (trimmed_to (least_need s.processes s.waves (readers_from i 0 s.processes) (slot_wave s i).clock) (slot_wave s i)) })
trim_sound s sound i h given = go (cases_lt (slot_wave s i).base least)
  where
    least : ℕ
    least = least_need s.processes s.waves (readers_from i 0 s.processes) (slot_wave s i).clock

    go : ((slot_wave s i).base < least) ⊎ (least ≤ (slot_wave s i).base) → IsSound (record s { waves = set s.waves i (trimmed_to least (slot_wave s i)) })
    go (inl more) =
        let test : ltb (slot_wave s i).base least ≡ true = lt-ltb _ _ more in
        let P : Bool → Type 0 = λ b. IsSound (record s { waves = set s.waves i (cond b (wave_from (slot_wave s i) least) (slot_wave s i)) }) in
        subst P (sym test) (record {
          paired = length-set s.waves i (wave_from (slot_wave s i) least) ∙ sound.paired;
          whole = λ k below driven.
              let other : k ≡ i → ⊥ = λ e. absurd (let no : true ≡ false = sym given ∙ ap (λ n. is_given (process_at s n).rule) (sym e) ∙ driven in cc) in
              ap (λ v. v.base) (get_or-set_other s.waves i k (wave_from (slot_wave s i) least) (new_wave 0) other) ∙ sound.whole k below driven;
          ready = λ k below.
              let needs : AllByRecursion (λ r. least ≤ need_at s.processes s.waves r) (readers_from i 0 s.processes) = least_each s.processes s.waves (readers_from i 0 s.processes) (slot_wave s i).clock in
              let here : 0 + k ≡ k = omega arith in
              let Q : ℕ → Type 0 = λ n. AllByRecursion (λ r. least ≤ need_at s.processes s.waves r) (pins_on i n (process_at s k).operands) in
              let own : Q k = subst Q here (pins_among (λ r. least ≤ need_at s.processes s.waves r) i 0 k s.processes _ below needs) in
              let R : ℕ → Type 0 = λ clock. IsReadyFor (set s.waves i (wave_from (slot_wave s i) least)) clock (process_at s k).rule (process_at s k).operands (process_at s k).stimulus in
              subst R (sym (clock_at k (cases_eq k i)))
              (ready_trimmed s.waves i least (wave_from (slot_wave s i) least) h refl refl k (slot_wave s k).clock (process_at s k).rule (process_at s k).operands (process_at s k).stimulus (sound.ready k below)
              (needs_of s.processes s.waves least i k (process_at s k).operands own));
        })
      where
        clock_at : (k : ℕ) → (k ≡ i) ⊎ (k ≡ i → ⊥) → (get_or (set s.waves i (wave_from (slot_wave s i) least)) k (new_wave 0)).clock ≡ (slot_wave s k).clock
        clock_at k (inl e) =
            ap (λ n. (get_or (set s.waves i (wave_from (slot_wave s i) least)) n (new_wave 0)).clock) e ∙ ap (λ v. v.clock) (get_or-set_same s.waves i (wave_from (slot_wave s i) least) (new_wave 0) h)
            ∙ ap (λ n. (slot_wave s n).clock) (sym e)
        clock_at k (inr ne) = ap (λ v. v.clock) (get_or-set_other s.waves i k (wave_from (slot_wave s i) least) (new_wave 0) ne)
    go (inr none) =
        let test : ltb (slot_wave s i).base least ≡ false = le-ltb _ _ none in
        let P : Bool → Type 0 = λ b. IsSound (record s { waves = set s.waves i (cond b (wave_from (slot_wave s i) least) (slot_wave s i)) }) in
        subst P (sym test) (sound_still s.horizon s.processes s.waves _ (gone_on_set s.waves i (slot_wave s i) h refl refl (omega arith)) sound)

-- ---- wave after wave

needs_same : (ps : List Process) (ws vs : List Wave) → ((k : ℕ) → (get_or ws k (new_wave 0)).clock ≡ (get_or vs k (new_wave 0)).clock) → (rs : List Reader) (most : ℕ) → least_need ps ws rs most ≡ least_need ps vs rs most
needs_same ps ws vs same [] most = refl
needs_same ps ws vs same (r ∷ rs) most =
    let rule : ProcessRule = (get_or ps r.slot (record { rule = Given; operands = []; stimulus = [] })).rule in
    let e : need_at ps ws r ≡ need_at ps vs r = ap (need rule r.delay) (same r.slot) in
    ap (λ n. least_need ps ws rs (min most n)) e ∙ needs_same ps ws vs same rs (min most (need_at ps vs r))

-- the waves before a place are trimmed, and those from there on are as they were
pub record TrimmedSoFar (old now : Cluster) (upto : ℕ) : Type 0 where
  pub same : IsSameButWaves old now
  pub before : (k : ℕ) → k < upto → k < length old.waves → slot_wave now k ≡ trimmed_wave old k
  pub rest : (k : ℕ) → upto ≤ k → slot_wave now k ≡ slot_wave old k

-- each wave is trimmed up to a tick that is no further than its clock
pub wave_trims : (s : Cluster) (k : ℕ) → IsTrim (slot_wave s k) (trimmed_wave s k)
wave_trims s k = go (given_at s.processes k)
  where
    least : ℕ
    least = least_need s.processes s.waves (readers_from k 0 s.processes) (slot_wave s k).clock

    go : (b : Bool) → IsTrim (slot_wave s k) (cond b (trimmed_to least (slot_wave s k)) (slot_wave s k))
    go true = (least, least_clock s.processes s.waves (readers_from k 0 s.processes) (slot_wave s k).clock, refl)
    go false = trim_same (slot_wave s k)

pub trims_range : (ws : List Wave) (f : ℕ → Wave) (a : ℕ) → ((k : ℕ) → k < length ws → IsTrim (get_or ws k (new_wave 0)) (f (a + k))) → AreTrims ws (map f (range_with_len a (length ws)))
trims_range [] f a each = tt
trims_range (w ∷ ws) f a each =
    let first : a + 0 ≡ a = omega arith in
    let P : ℕ → Type 0 = λ n. IsTrim w (f n) in
    (subst P first (each 0 (omega arith)), trims_range ws f (a + 1) (λ k h. let next : a + suc k ≡ a + 1 + k = omega arith in let Q : ℕ → Type 0 = λ n. IsTrim (get_or ws k (new_wave 0)) (f n) in subst Q next (each (suc k) (omega arith))))

pub trimmed_trims : (s : Cluster) → AreTrims s.waves (trimmed s).waves
trimmed_trims s = trims_range s.waves (trimmed_wave s) 0 (λ k h. let here : k ≡ 0 + k = omega arith in let P : ℕ → Type 0 = λ n. IsTrim (slot_wave s k) (trimmed_wave s n) in subst P here (wave_trims s k))

wave_clock : (s : Cluster) (k : ℕ) → (trimmed_wave s k).clock ≡ (slot_wave s k).clock
wave_clock s k = let t = wave_trims s k in ap (λ (w : Wave). w.clock) t.2 ∙ trim_clock t.0 (slot_wave s k)

module _ (old now : Cluster) (i : ℕ) (so : TrimmedSoFar old now i) (h : i < length old.waves) where
  clocks : (k : ℕ) → (slot_wave now k).clock ≡ (slot_wave old k).clock
  clocks k = go (cases_lt k i)
    where
      go : (k < i) ⊎ (i ≤ k) → (slot_wave now k).clock ≡ (slot_wave old k).clock
      go (inl l) = ap (λ w. w.clock) (so.before k l (omega arith)) ∙ wave_clock old k
      go (inr l) = ap (λ w. w.clock) (so.rest k l)

  same_trim : trimmed_wave now i ≡ trimmed_wave old i
  same_trim =
      ap (λ ps. cond (given_at ps i) (trimmed_to (least_need ps now.waves (readers_from i 0 ps) (slot_wave now i).clock) (slot_wave now i)) (slot_wave now i)) so.same.processes
      ∙ ap (λ n. cond (given_at old.processes i) (trimmed_to n (slot_wave now i)) (slot_wave now i)) (needs_same old.processes now.waves old.waves clocks (readers_from i 0 old.processes) (slot_wave now i).clock)
      ∙ ap (λ w. cond (given_at old.processes i) (trimmed_to (least_need old.processes old.waves (readers_from i 0 old.processes) w.clock) w) w) (so.rest i (omega arith))

  long : i < length now.waves
  long = omega (arith, sym (length-map now.waves (λ w. w.net)) ∙ ap length so.same.nets ∙ length-map old.waves (λ w. w.net))

  pub trim_more : (new : Cluster) → new.waves ≡ set now.waves i (trimmed_wave now i) → IsSameButWaves now new → TrimmedSoFar old new (i + 1)
  trim_more new e same = record {
    same = record { horizon = same.horizon ∙ so.same.horizon; processes = same.processes ∙ so.same.processes; nets = same.nets ∙ so.same.nets };
    before = λ k l b. go k b (cases_eq k i) (λ ne. omega arith);
    rest = λ k l.
        let other : k ≡ i → ⊥ = λ q. absurd (omega arith) in
        ap (λ ws. get_or ws k (new_wave 0)) e ∙ get_or-set_other now.waves i k (trimmed_wave now i) (new_wave 0) other ∙ so.rest k (omega arith);
  }
    where
      go : (k : ℕ) → k < length old.waves → (k ≡ i) ⊎ (k ≡ i → ⊥) → ((k ≡ i → ⊥) → k < i) → slot_wave new k ≡ trimmed_wave old k
      go k b (inl q) less =
          ap (λ ws. get_or ws k (new_wave 0)) e ∙ ap (λ n. get_or (set now.waves i (trimmed_wave now i)) n (new_wave 0)) q ∙ get_or-set_same now.waves i (trimmed_wave now i) (new_wave 0) long
          ∙ same_trim ∙ ap (trimmed_wave old) (sym q)
      go k b (inr ne) less =
          ap (λ ws. get_or ws k (new_wave 0)) e ∙ get_or-set_other now.waves i k (trimmed_wave now i) (new_wave 0) ne ∙ so.before k (less ne) b

pub trim_none : (s : Cluster) → TrimmedSoFar s s 0
trim_none s = record { same = record { horizon = refl; processes = refl; nets = refl }; before = λ k l b. absurd (omega arith); rest = λ k l. refl }

pub trim_all : (old now : Cluster) (i : ℕ) → length old.waves ≤ i → TrimmedSoFar old now i → now ≡ trimmed old
trim_all old now i h so =
    let long : length now.waves ≡ length old.waves = sym (length-map now.waves (λ w. w.net)) ∙ ap length so.same.nets ∙ length-map old.waves (λ w. w.net) in
    let all : now.waves ≡ map (trimmed_wave old) (range_with_len 0 (length old.waves)) = fill_by_all (trimmed_wave old) now.waves (length old.waves) (new_wave 0) long (λ k b. so.before k (omega arith) b) in
    λ j. record { horizon = so.same.horizon j; processes = so.same.processes j; waves = all j }

-- ---- what the lists of readers say

pins_below : (place slot most : ℕ) (os : List ProcessPin) → slot < most → AllByRecursion (λ r. r.slot < most) (pins_on place slot os)
pins_below place slot most [] h = tt
pins_below place slot most (o ∷ os) h = go (eqb o.slot place) (pins_below place slot most os h)
  where
    go : (b : Bool) → AllByRecursion (λ r. r.slot < most) (pins_on place slot os) → AllByRecursion (λ r. r.slot < most) (cond b (record { slot = slot; delay = o.delay } ∷ pins_on place slot os) (pins_on place slot os))
    go true rest = (h, rest)
    go false rest = rest

readers_below : (place slot most : ℕ) (ps : List Process) → slot + length ps ≤ most → AllByRecursion (λ r. r.slot < most) (readers_from place slot ps)
readers_below place slot most [] h = tt
readers_below place slot most (p ∷ ps) h =
    all_append (λ r. r.slot < most) (pins_on place slot p.operands) (readers_from place (suc slot) ps) (pins_below place slot most p.operands (omega arith)) (readers_below place (suc slot) most ps (omega arith))

pub listed_below : (ps : List Process) (place : ℕ) → given_at ps place ≡ true → All (λ r. r.slot < length ps) (listed_readers ps ps place)
listed_below ps place given =
    let P : Bool → Type 0 = λ b. All (λ (r : Reader). r.slot < length ps) (cond b (readers_from place 0 ps) []) in
    subst P (sym given) (All-from_recursion (λ r. r.slot < length ps) (readers_from place 0 ps) (readers_below place 0 (length ps) ps (omega arith)))

pub listed_given : (ps : List Process) (place : ℕ) → given_at ps place ≡ true → listed_readers ps ps place ≡ readers_from place 0 ps
listed_given ps place given = ap (λ b. cond b (readers_from place 0 ps) []) given

pub readers_length : (ps : List Process) (nets : List ℕ) (directory : Directory) → IsDirectory ps nets directory → length directory.readers.items ≡ length ps
readers_length ps nets directory a =
    sym (length-map directory.readers.items (λ list. list.items)) ∙ ap length a.readers ∙ length-map-range_with_len (listed_readers ps ps) 0 (length ps)

pub readers_at : (ps : List Process) (nets : List ℕ) (directory : Directory) (slot : ℕ) (v : Vec Reader Global) → IsDirectory ps nets directory → slot < length ps → v ≡ get_or directory.readers.items slot v → v.items ≡ listed_readers ps ps slot
readers_at ps nets directory slot v a h e =
    let long : slot < length directory.readers.items = omega (arith, readers_length ps nets directory a) in
    ap (λ list. list.items) e ∙ sym (get_or-map (λ list. list.items) directory.readers.items slot v [] long) ∙ ap (λ t. get_or t slot []) a.readers
    ∙ get_or-map-range_with_len (listed_readers ps ps) 0 (length ps) slot slot [] h (omega arith)
