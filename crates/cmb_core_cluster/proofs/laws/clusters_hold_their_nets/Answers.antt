use Rattle.cmb_core_cluster.proofs.OwnFacts.{own_driven, input_read}
use Rattle.cmb_core_cluster.proofs.NetByNet.{still_of}
use Rattle.cmb_core_cluster.proofs.laws.clusters_hold_their_nets.Goals as goal

pub returns : goal.returns
returns c = record {
  driven = λ design clustering cluster s net of. own_driven design clustering cluster s of net;
  given = λ design clustering cluster s net of. input_read design clustering cluster s of net;
  stays = still_of;
}
