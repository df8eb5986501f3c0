use Rattle.std.proofs.Common.{◌∙◌, ap, length}
use Rattle.std.proofs.lemmas.List.{length-map}
use Rattle.cmb_netlist.specs.Netlist.{name_of}
use Rattle.cmb_run_text.specs.Chosen.{names_of}
use Rattle.cmb_run_scopes.specs.Scopes.{parts}
use Rattle.cmb_run_scopes.proofs.HeaderFacts.{all-written, range-within}
use Rattle.cmb_run_scopes.proofs.header.scoped_header.Goals as goal

pub push_declarations-requires-clause-places : goal.push_declarations-requires-clause-places
push_declarations-requires-clause-places c =
    let nets = c.args.nets.now in
    let names = names_of c.args.netlist.now nets in
    let paths_so = c.deref.ensures.value ∙ c.in_ok-paths.ensures in
    let long = ap length paths_so ∙ length-map names parts ∙ length-map nets (name_of c.args.netlist.now) in
    range-within c.deref.result.now c.deref-2.result.now (length nets) (c.deref-2.ensures.value ∙ c.in_ok-places.ensures) long

pub returns : goal.returns
returns c =
    let nets = c.args.nets.now in
    let names = names_of c.args.netlist.now nets in
    all-written names (length nets) c.deref.result.now c.deref-2.result.now c.new-out.result.items c.extend_from_slice.new.self.items c.push_declarations.new.out.items
    c.extend_from_slice-2.new.self.items (c.deref.ensures.value ∙ c.in_ok-paths.ensures) (length-map nets (name_of c.args.netlist.now)) (c.deref-2.ensures.value ∙ c.in_ok-places.ensures)
    c.new-out.ensures.items c.in_ok-extend_from_slice.ensures.items c.in_ok-push_declarations.ensures c.in_ok-extend_from_slice-2.ensures.items
