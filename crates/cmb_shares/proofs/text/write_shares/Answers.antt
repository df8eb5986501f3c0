use Rattle.std.proofs.Common.{subst}
use Rattle.cmb_dump.specs.Shown.{Subject, whole_text}
use Rattle.cmb_dump_stream.specs.Streams.{IsWrittenTo}
use Rattle.cmb_shares.proofs.text.write_shares.Goals as goal

pub returns : goal.returns
returns g c =
    subst (λ (s : Subject). IsWrittenTo g.S.Sink (whole_text s) c.args.sink.now c.write_named.new.sink c.write_named.result) c.shares.view_is c.write_named.ensures
