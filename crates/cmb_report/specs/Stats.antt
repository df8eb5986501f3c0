-- What a run took, as a text: a line for each number.
use Rattle.std.specs.Prelude.{ℕ, List, ◌++◌, ◌+◌, ◌-◌, ◌/◌, ◌%◌, ◌^◌, min, codes, Option, None, Some, []}
use Rattle.std.specs.Fmt.{format_spec, styled_decimal}
use Rattle.std.specs.Duration.{as_nanos, max_nanos}
use Rattle.std.specs.declared.time.Duration.{Duration}
use Rattle.cmb_report.specs.declared.stats.Stats.{Stats}

-- what the number is, behind it, up to the end of the line
abbrev pub named : List ℕ → List ℕ
named what = codes "  " ++ (what ++ codes "\n")

-- a number at the right of sixteen columns
abbrev pub row : ℕ → List ℕ → List ℕ
row number what = styled_decimal (format_spec 32 3 0 16 (2 ^ 64 - 1)) number ++ named what

-- a time in seconds, with three digits behind the point, in the same columns
abbrev pub seconds_row : ℕ → List ℕ → List ℕ
seconds_row nanoseconds what =
    styled_decimal (format_spec 32 3 0 12 (2 ^ 64 - 1)) (nanoseconds / 1000000000)
    ++ (codes "." ++ (styled_decimal (format_spec 32 0 4 3 (2 ^ 64 - 1)) (nanoseconds % 1000000000 / 1000000) ++ named what))

-- the time that was neither reading nor writing
abbrev pub simulating : Stats → ℕ
simulating stats = as_nanos stats.whole - min (as_nanos stats.reading + as_nanos stats.writing) max_nanos

abbrev pub number_rows : Stats → List ℕ
number_rows stats =
    row stats.nets (codes "nets") ++ (row stats.ticks (codes "ticks")
    ++ (row stats.so_far.changes (codes "changes, with the levels at tick 0") ++ row stats.so_far.bytes (codes "bytes written")))

abbrev pub time_rows : Stats → List ℕ
time_rows stats =
    seconds_row (as_nanos stats.reading) (codes "seconds until the inputs were read")
    ++ (seconds_row (simulating stats) (codes "seconds of making the design and simulating")
    ++ seconds_row (as_nanos stats.writing) (codes "seconds of writing"))

-- the processor time of all threads, where the system tells
abbrev pub processor_row : Option Duration → List ℕ
processor_row None = []
processor_row (Some time) = seconds_row (as_nanos time) (codes "seconds of processor time, all threads together")

-- the most memory, where the system tells
abbrev pub peak_row : Option ℕ → List ℕ
peak_row None = []
peak_row (Some peak) = row peak (codes "KB of memory at most")

abbrev pub stats_rows : Stats → List ℕ
stats_rows stats = number_rows stats ++ (time_rows stats ++ (processor_row stats.processor ++ peak_row stats.peak))
