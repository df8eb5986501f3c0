use Rattle.std.proofs.Common.{◌≡◌, ℕ, ◌+◌, ◌<◌, ◌≤◌, length, get_or}
use Rattle.cmb_engine.specs.Shares.{ShareEngine}
use Rattle.cmb_shares.specs.Inner.Flows.{AreSources}
use Rattle.cmb_shares.specs.Inner.Opened.{AreEngines, AreStations}
use Rattle.cmb_shares.specs.Inner.Processes.{AreLone}
use Rattle.cmb_shares.proofs.stations.stations_of.Given as goal

abbrev pub invariant-loop-number : goal.invariant-loop-number
invariant-loop-number g l = record {
  shares : l.shares ≡ length g.T.ShareRun.run.driven;
  rest : length l.engines.items + l.number ≡ l.shares;
  each : AreEngines g.T.ShareRun.run l.number l.engines.items;
  short : (k : ℕ) (d : ShareEngine) → k < length l.engines.items → g.T.ShareRun.run.windows.width ≤ (get_or l.engines.items k d).width;
  count : length l.stations.items ≡ l.number;
  stations : AreStations l.stations.items;
  lone : AreLone (length g.T.ShareRun.run.driven) l.stations.items;
  told : length l.sources.items ≡ l.number;
  sources : AreSources g.T.ShareRun.run 1 l.sources.items;
}
