-- Where windows end: the ticks at which clocks may stand.
use Rattle.std.proofs.Common.{◌≡◌, ℕ, zero, suc, ◌+◌, ◌-◌, ◌<◌, ◌≤◌, ◌⊎◌, inl, inr, cond, ltb, refl, ap, subst, arith}
use Rattle.std.proofs.lemmas.Bool.{lt-ltb, le-ltb, cases_lt, cond_both}
use Rattle.cmb_shares_protocol.specs.Network.{Network, IsNetwork, ahead, windows_on, lookahead}

-- a tick so many windows on from the first
abbrev pub IsOnGrid : Network → ℕ → Type 0
IsOnGrid network tick = (many : ℕ) × (windows_on network many network.begin ≡ tick)

pub on-ahead : (network : Network) (tick : ℕ) → IsOnGrid network tick → IsOnGrid network (ahead network tick)
on-ahead network tick on = (suc on.0, ap (ahead network) on.1)

pub on-windows : (network : Network) (many tick : ℕ) → IsOnGrid network tick → IsOnGrid network (windows_on network many tick)
on-windows network zero tick on = on
on-windows network (suc many) tick on = on-ahead network (windows_on network many tick) (on-windows network many tick on)

-- ---- a window on

-- windows on from the next one
windows_on-ahead : (network : Network) (many tick : ℕ) → windows_on network many (ahead network tick) ≡ ahead network (windows_on network many tick)
windows_on-ahead network zero tick = refl
windows_on-ahead network (suc many) tick = ap (ahead network) (windows_on-ahead network many tick)

pub ahead-below : (network : Network) (tick : ℕ) → tick < network.horizon → ahead network tick ≡ network.next_end tick
ahead-below network tick early = ap (λ b. cond b (network.next_end tick) tick) (lt-ltb tick network.horizon early)

pub ahead-past : (network : Network) (tick : ℕ) → network.horizon ≤ tick → ahead network tick ≡ tick
ahead-past network tick late = ap (λ b. cond b (network.next_end tick) tick) (le-ltb tick network.horizon late)

module _ (network : Network) (is : IsNetwork network) where
  pub ahead-later : (tick : ℕ) → tick < network.horizon → tick < ahead network tick
  ahead-later tick early = omega (arith, ahead-below network tick early, is.later tick early)

  pub ahead-up : (tick : ℕ) → tick ≤ ahead network tick
  ahead-up tick = by (cases_lt tick network.horizon)
    where
      by : (tick < network.horizon) ⊎ (network.horizon ≤ tick) → tick ≤ ahead network tick
      by (inl early) = omega (arith, ahead-later tick early)
      by (inr late) = omega (arith, ahead-past network tick late)

  pub ahead-within : (tick : ℕ) → tick ≤ network.horizon → ahead network tick ≤ network.horizon
  ahead-within tick h = by (cases_lt tick network.horizon)
    where
      by : (tick < network.horizon) ⊎ (network.horizon ≤ tick) → ahead network tick ≤ network.horizon
      by (inl early) = omega (arith, ahead-below network tick early, is.within tick early)
      by (inr late) = omega (arith, h, ahead-past network tick late)

  on-more : (tick more many : ℕ) → windows_on network many tick ≤ windows_on network (more + many) tick
  on-more tick zero many = let e : zero + many ≡ many = omega arith in rw e (omega arith)
  on-more tick (suc more) many =
      let e : suc more + many ≡ suc (more + many) = omega arith in
      rw e (omega (arith, on-more tick more many, ahead-up (windows_on network (more + many) tick)))

  on-up : (tick few many : ℕ) → few ≤ many → windows_on network few tick ≤ windows_on network many tick
  on-up tick few many h =
      let more : ℕ = many - few in
      let e : more + few ≡ many = omega arith in
      subst (λ n. windows_on network few tick ≤ windows_on network n tick) e (on-more tick more few)

  -- so many windows on from a tick, and from the next window's end
  pub windows_on-up : (many tick : ℕ) → windows_on network many tick ≤ windows_on network many (ahead network tick)
  windows_on-up many tick = omega (arith, windows_on-ahead network many tick, ahead-up (windows_on network many tick))

  pub windows_on-least : (many tick : ℕ) → tick ≤ windows_on network many tick
  windows_on-least many tick = on-up tick 0 many (omega arith)

  -- a channel that has room for a message and holds none
  pub room-ahead : (tick room : ℕ) → 1 ≤ room → tick < network.horizon → tick < windows_on network room tick
  room-ahead tick room some early = omega (arith, on-up tick 1 room some, ahead-later tick early)

  -- between two such ticks there is a whole window
  pub gap : (x y : ℕ) → IsOnGrid network x → IsOnGrid network y → x < y → ahead network x ≤ y
  gap x y on other less = by (cases_lt on.0 other.0)
    where
      by : (on.0 < other.0) ⊎ (other.0 ≤ on.0) → ahead network x ≤ y
      by (inl later) = subst (λ t. ahead network t ≤ y) on.1 (subst (λ t. windows_on network (suc on.0) network.begin ≤ t) other.1 (on-up network.begin (suc on.0) other.0 later))
      by (inr sooner) = absurd (omega (arith, on.1, other.1, on-up network.begin other.0 on.0 sooner))

  -- so what is below the end of a window isn't behind its beginning
  pub within_window : (x y : ℕ) → IsOnGrid network x → IsOnGrid network y → x < ahead network y → x ≤ y
  within_window x y on other less = by (cases_lt y x)
    where
      by : (y < x) ⊎ (x ≤ y) → x ≤ y
      by (inl after) = absurd (omega (arith, less, gap y x other on after))
      by (inr h) = h

-- ---- the lookahead

pub lookahead-share : (network : Network) (tick reader : ℕ) → reader < network.shares → lookahead network tick reader ≡ ahead network tick
lookahead-share network tick reader share = ap (λ b. cond b (ahead network tick) tick) (lt-ltb reader network.shares share)

pub lookahead-text : (network : Network) (tick reader : ℕ) → network.shares ≤ reader → lookahead network tick reader ≡ tick
lookahead-text network tick reader text = ap (λ b. cond b (ahead network tick) tick) (le-ltb reader network.shares text)

pub lookahead-on : (network : Network) (tick reader : ℕ) → IsOnGrid network tick → IsOnGrid network (lookahead network tick reader)
lookahead-on network tick reader on =
    cond_both (ltb reader network.shares) (ahead network tick) tick (IsOnGrid network) (λ share. on-ahead network tick on) (λ text. on)

-- it goes no further than a window, and no less far than the clock
pub lookahead-most : (network : Network) → IsNetwork network → (tick reader : ℕ) → lookahead network tick reader ≤ ahead network tick
lookahead-most network is tick reader =
    cond_both (ltb reader network.shares) (ahead network tick) tick (λ t. t ≤ ahead network tick) (λ share. omega arith) (λ text. ahead-up network is tick)

pub lookahead-up : (network : Network) → IsNetwork network → (tick reader : ℕ) → tick ≤ lookahead network tick reader
lookahead-up network is tick reader =
    cond_both (ltb reader network.shares) (ahead network tick) tick (λ t. tick ≤ t) (λ share. ahead-up network is tick) (λ text. omega arith)
