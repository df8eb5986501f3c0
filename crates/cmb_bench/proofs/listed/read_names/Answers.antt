use Rattle.std.proofs.Common.{◌∙◌, ap, arith, sym}
use Rattle.std.specs.Prelude.{is_none}
use Rattle.cmb_bench.specs.Inner.Scan.{lexeme, scan}
use Rattle.cmb_bench.proofs.ListedFacts.{AreSaid-read, HasUnknown-read, known_next, said_more, unknown_here}
use Rattle.cmb_bench.proofs.listed.read_names.Goals as goal

pub returns-then-is-clause-said : goal.returns-then-is-clause-said
returns-then-is-clause-said c =
    AreSaid-read c.args.netlist.now _ _ _ _ _ _ c.new-cursor.ensures.tokens c.loop-cursor.invariant.known c.loop-cursor.invariant.said c.next-token.ensures.token (sym c.is.ensures.value ∙ c.if-is.true)

pub returns-in_default-clause-fault : goal.returns-in_default-clause-fault
returns-in_default-clause-fault c =
    let more = sym c.is.ensures.value ∙ c.if-is.false in
    HasUnknown-read c.args.netlist.now _ _ _ _ c.new-cursor.ensures.tokens c.loop-cursor.invariant.known
    (unknown_here _ _ _ _ c.next-token.ensures.token (c.known_name.ensures.unknown more ∙ ap is_none c.in_default.is))

pub loop-cursor-preserved : goal.loop-cursor-preserved
loop-cursor-preserved c =
    let more = sym c.is.ensures.value ∙ c.if-is.false in
    record {
      known = c.loop-cursor.invariant.known ∙ known_next c.args.netlist.now _ _ _ c.next-token.ensures.token (c.known_name.ensures.unknown more ∙ ap is_none c.in-Some.is) more;
      said = said_more (scan c.new-cursor.result) (scan c.loop-cursor.cursor) (scan c.next-token.new.self) (lexeme c.next-token.result) c.loop-cursor.said.keys c.insert_name.new.names.keys c.in-Some.name.now c.in-Ok.field-0 c.next-token.ensures.token more c.in-Some.ensures.name c.in-Ok.ensures.new c.in-Ok.ensures.names
          c.loop-cursor.invariant.said;
      fits = omega (arith, c.next-token.ensures.fits, c.loop-cursor.invariant.fits);
    }
