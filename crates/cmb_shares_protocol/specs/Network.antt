-- A network of logical processes that have the same windows, and the channels among them.
-- So shares of a circuit run: each is a logical process (Chandy and Misra 1979), and so is the text, which tells nobody.
use Rattle.std.specs.Prelude.{◌≡◌, ℕ, zero, suc, ◌<◌, ◌≤◌, nat_lt, Bool, true, if◌then◌else◌}

pub record Network : Type 0 where
  -- shares have the numbers from 0 on, and the text has the number behind theirs
  pub shares : ℕ
  -- whether a channel leads from one process to another, and how many messages it holds
  pub leads : ℕ → ℕ → Bool
  pub room : ℕ → ℕ → ℕ
  -- the tick at which the first window begins, where a window ends that begins at a tick, and the tick at which the last one ends
  pub begin : ℕ
  pub next_end : ℕ → ℕ
  pub horizon : ℕ

-- Every window has a tick at least, and none goes beyond the horizon. Only shares tell. Each channel holds a message at least.
pub record IsNetwork (network : Network) : Type 0 where
  pub begins : network.begin ≤ network.horizon
  pub later : (tick : ℕ) → tick < network.horizon → tick < network.next_end tick
  pub within : (tick : ℕ) → tick < network.horizon → network.next_end tick ≤ network.horizon
  pub sender : (sender reader : ℕ) → network.leads sender reader ≡ true → sender < network.shares
  pub reader : (sender reader : ℕ) → network.leads sender reader ≡ true → reader ≤ network.shares
  pub room : (sender reader : ℕ) → network.leads sender reader ≡ true → 1 ≤ network.room sender reader

-- a tick, a window on; at the horizon there is no window any more
abbrev pub ahead : Network → ℕ → ℕ
ahead network tick = if nat_lt tick network.horizon then network.next_end tick else tick

-- a tick, so many windows on
abbrev pub windows_on : Network → ℕ → ℕ → ℕ
windows_on network zero tick = tick
windows_on network (suc many) tick = ahead network (windows_on network many tick)

-- Up to where a process that made its windows below a tick can tell a reader. A share is told of crossing flip-flops, whose
-- lookahead is a window. The text is told of all nets, for which there is none.
abbrev pub lookahead : Network → ℕ → ℕ → ℕ
lookahead network tick reader = if nat_lt reader network.shares then ahead network tick else tick
