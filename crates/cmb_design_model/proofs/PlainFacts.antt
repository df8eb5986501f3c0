-- What a table of levels tells, and how it grows.
use Rattle.std.proofs.Common.{◌≡◌, ℕ, suc, ◌+◌, ◌-◌, ◌*◌, ◌/◌, ◌%◌, ◌<◌, ◌≤◌, false, List, [], ◌∷◌, ◌++◌, Some, length, get_or, take, map, if◌then◌else◌, refl, sym, ap, ◌∙◌, arith, ltb}
use Rattle.std.specs.Prelude.{slice_get, All}
use Rattle.std.specs.List.{range_with_len}
use Rattle.std.proofs.lemmas.Bool.{le-ltb}
use Rattle.std.proofs.lemmas.List.{length-take, take_more}
use Rattle.std.proofs.lemmas.List.FromFn.{length-map-range_with_len, get_or-map-range_with_len, map-range_with_len_more}
use Rattle.std.proofs.lemmas.Nat.{mul-add-lt, div-mul-add, mod-mul-add}
use Rattle.std.proofs.lemmas.Option.{slice_get_within, slice_get_read}
use Rattle.cmb_wave.specs.declared.level.Change.{Change}
use Rattle.cmb_wave.specs.declared.level.Level.{Level}
use Rattle.cmb_wave.specs.declared.level.Level.TheVariants.{X}
use Rattle.cmb_wave.specs.Waveform.{change_at, changes_between, count_below, level_before, same_level, IsTrace}
use Rattle.cmb_wave.specs.Wave.{grown, new_wave}
use Rattle.cmb_wave.proofs.Spans.{trace-both}
use Rattle.cmb_wave.proofs.Waveforms.{changes_between-alternates, changes_between-rises, changes_between-suc}
use Rattle.cmb_design_model.specs.Design.{Design}
use Rattle.cmb_design_model.specs.Exact.{IsExactWaveIn, nets_of}
use Rattle.cmb_design_model.specs.Plain.{whole_wave, whole_waves}
use Rattle.cmb_design_model.specs.Inner.PlainTable.{cell_level, HoldsCells, HoldsTicks}
use Rattle.cmb_design_model.specs.Timing.{clock_of, delay, last_sample}
use Rattle.cmb_design_model.specs.Value.{changes, delayed, flop_level, pin_levels, value}
use Rattle.cmb_design_model.specs.declared.plain_table.Table.{Table}

-- ---- reading

module _ (design : Design) (table : Table) (ticks net tick : ℕ) (holds : HoldsTicks design table ticks) (b : net < nets_of design) (h : tick < ticks) where
  pub cell_within : tick * table.nets + net < length table.levels.items
  cell_within = rw holds.nets (slice_get_within table.levels.items (tick * nets_of design + net) (value design net tick) (holds.levels net tick b h))

  pub cell_told : (level : Level) → slice_get table.levels.items (tick * table.nets + net) ≡ Some level → level ≡ value design net tick
  cell_told level e =
      let told : slice_get table.levels.items (tick * table.nets + net) ≡ Some (value design net tick) = rw holds.nets (holds.levels net tick b h) in
      cc

-- ---- pins and flip-flops

pub delayed-late : (level : ℕ → Level) (ticks tick : ℕ) → ticks ≤ tick → delayed level ticks tick ≡ level (tick - ticks)
delayed-late level ticks tick h = let e : ltb tick ticks ≡ false = le-ltb tick ticks h in rw e

pub pin_levels-append : (design : Design) (level : ℕ → ℕ → Level) (net tick pin : ℕ) (operands : List ℕ) (operand : ℕ)
    → pin_levels design level net tick pin (operands ++ operand ∷ []) ≡ pin_levels design level net tick pin operands ++ delayed (level operand) (delay design net (pin + length operands)) tick ∷ []
pin_levels-append design level net tick pin [] operand = let e : pin + 0 ≡ pin = omega arith in rw e
pin_levels-append design level net tick pin (x ∷ xs) operand =
    let e : pin + suc (length xs) ≡ suc pin + length xs = omega arith in
    rw e (ap (λ levels. delayed (level x) (delay design net pin) tick ∷ levels) (pin_levels-append design level net tick (suc pin) xs operand))

pub flop_level-late : (design : Design) (level : ℕ → Level) (net tick sample : ℕ) → delay design net 1 ≤ tick → last_sample (clock_of design net) (tick - delay design net 1) ≡ Some sample → flop_level design level net tick ≡ level sample
flop_level-late design level net tick sample h e =
    let t : ltb tick (delay design net 1) ≡ false = le-ltb tick (delay design net 1) h in
    rw (e, t)

pub pin_levels-more : (design : Design) (level : ℕ → ℕ → Level) (net tick : ℕ) (operands : List ℕ) (i d : ℕ) → i < length operands
    → pin_levels design level net tick 1 (take (i + 1) operands) ≡ pin_levels design level net tick 1 (take i operands) ++ delayed (level (get_or operands i d)) (delay design net (i + 1)) tick ∷ []
pin_levels-more design level net tick operands i d h =
    let n : length (take i operands) ≡ i = simp length-take (omega arith) in
    let pin : 1 + length (take i operands) ≡ i + 1 = omega arith in
    ap (pin_levels design level net tick 1) (take_more operands i d h) ∙ pin_levels-append design level net tick 1 (take i operands) (get_or operands i d) ∙ rw pin

pub length-pin_levels : (design : Design) (level : ℕ → ℕ → Level) (net tick pin : ℕ) (operands : List ℕ) → length (pin_levels design level net tick pin operands) ≡ length operands
length-pin_levels design level net tick pin [] = refl
length-pin_levels design level net tick pin (operand ∷ operands) = ap suc (length-pin_levels design level net tick (suc pin) operands)

-- ---- filling

-- the place of a cell leads back to its net and its tick
cell_level-at : (design : Design) (net tick : ℕ) → net < nets_of design → cell_level design (tick * nets_of design + net) ≡ value design net tick
cell_level-at design net tick b =
    let column : (tick * nets_of design + net) % nets_of design ≡ net = mod-mul-add tick (nets_of design) net b in
    let row : (tick * nets_of design + net) / nets_of design ≡ tick = div-mul-add tick (nets_of design) net b in
    rw (column, row)

pub holds_ticks : (design : Design) (table : Table) (cells ticks : ℕ) → HoldsCells design table cells → ticks * nets_of design ≤ cells → HoldsTicks design table ticks
holds_ticks design table cells ticks holds few = record { nets = holds.nets; levels = told }
  where
    told : (net tick : ℕ) → net < nets_of design → tick < ticks → slice_get table.levels.items (tick * nets_of design + net) ≡ Some (value design net tick)
    told net tick b h =
        let place : tick * nets_of design + net < cells = omega (arith, mul-add-lt tick (nets_of design) net ticks h b) in
        let read : get_or (map (cell_level design) (range_with_len 0 cells)) (tick * nets_of design + net) (value design net tick) ≡ cell_level design (tick * nets_of design + net) =
        get_or-map-range_with_len (cell_level design) 0 cells (tick * nets_of design + net) (tick * nets_of design + net) (value design net tick) place (omega arith) in
        rw holds.levels
        (slice_get_read _ cells (tick * nets_of design + net) (value design net tick) (sym (length-map-range_with_len (cell_level design) 0 cells)) place
        (sym (read ∙ cell_level-at design net tick b)))

-- one cell more
pub cells-push : (design : Design) (levels : List Level) (net tick : ℕ) → net < nets_of design → levels ≡ map (cell_level design) (range_with_len 0 (tick * nets_of design + net))
    → levels ++ value design net tick ∷ [] ≡ map (cell_level design) (range_with_len 0 (tick * nets_of design + (net + 1)))
cells-push design levels net tick b e =
    let cell : ℕ = tick * nets_of design + net in
    let more : tick * nets_of design + (net + 1) ≡ cell + 1 = omega arith in
    rw (e, more, sym (cell_level-at design net tick b)) (sym (map-range_with_len_more (cell_level design) 0 cell cell (omega arith)))

-- ---- the waves

-- the changes of one tick more
pub changes-more : (level : ℕ → Level) (tick : ℕ) (changes more : List Change) (before now : Level) → changes ≡ changes_between level 0 tick → before ≡ level_before level tick → now ≡ level tick
    → more ≡ changes ++ (if same_level before now then [] else record { tick = tick; level = now } ∷ []) → more ≡ changes_between level 0 (tick + 1)
unfolding change_at
changes-more level tick changes more before now e b n m =
    let next : tick + 1 ≡ suc tick = omega arith in
    rw (m, e, b, n, next) (sym (changes_between-suc level 0 tick (omega arith)))

pub whole_trace : (level : ℕ → Level) (upto : ℕ) → IsTrace X 0 (changes_between level 0 upto) upto
whole_trace level upto = trace-both X 0 upto (changes_between level 0 upto) (omega arith) (changes_between-rises level 0 upto (omega arith)) (changes_between-alternates level 0 upto)

pub grown-whole : (design : Design) (net : ℕ) (changes' : List Change) (upto : ℕ) → upto ≡ design.horizon → changes' ≡ changes design net 0 design.horizon → grown (new_wave net) upto changes' ≡ whole_wave design net
unfolding count_below
grown-whole design net changes' upto h e =
    let n : 0 + length (changes design net 0 design.horizon) ≡ length (changes design net 0 design.horizon) = omega arith in
    rw (h, e, n)

pub whole-exact : (design : Design) (net : ℕ) → net < nets_of design → IsExactWaveIn design (whole_wave design net)
whole-exact design net b = record {
  net = b;
  exact = record { base = omega arith; within = omega arith; count = refl; changes = refl; kept = refl };
}

pub whole-all : (design : Design) → All (IsExactWaveIn design) (whole_waves design)
whole-all design net wave h =
    let n : length (whole_waves design) ≡ nets_of design = length-map-range_with_len (whole_wave design) 0 (nets_of design) in
    let b : net < nets_of design = omega arith in
    let read : get_or (whole_waves design) net wave ≡ whole_wave design net = get_or-map-range_with_len (whole_wave design) 0 (nets_of design) net net wave b (omega arith) in
    rw read (whole-exact design net b)
