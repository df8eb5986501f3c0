use Rattle.cmb_bench.proofs.Cutting.{cutting_is, cutting_unique}
use Rattle.cmb_bench.specs.Inner.Snippet.{snippets_of}
use Rattle.cmb_bench.proofs.laws.one_cutting.Goals as goal

pub returns : goal.returns
returns c bytes = (snippets_of bytes, cutting_is bytes, cutting_unique bytes)
