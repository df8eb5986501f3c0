use Rattle.std.proofs.Common.{◌≡◌, ap, sym, ◌∙◌}
use Rattle.cmb_links.specs.Inner.Ends.{IsCarried}
use Rattle.cmb_links.proofs.Links.{sends, learns_sent}
use Rattle.cmb_links.proofs.link.Link.put.Goals as goal

pub push_as-requires-clause-rule : goal.push_as-requires-clause-rule
push_as-requires-clause-rule g c =
    let v = c.pass.inside.pass.me.0.client in
    let is = c.pass.invariant.1 in
    let design : v.cargo.design ≡ c.args.pass.now.design = ap (λ p. p.design) c.pass.view_is in
    let nets : v.cargo.nets ≡ c.args.pass.now.nets = ap (λ p. p.nets) c.pass.view_is in
    let sent : v.sent ≡ c.args.pass.now.sent = ap (λ p. p.sent) c.pass.view_is in
    let carried : IsCarried v.cargo c.args.piece = record { exact = rw design c.requires.exact; net = rw nets c.requires.net } in
    let link : c.pass.inside.pass.table_id ≡ c.self.inside.queue.table.shared.table_id = ap (λ p. p.link) c.pass.view_is ∙ c.requires.link ∙ sym (ap (λ l. l.link) c.self.view_is) in
    let most : v.capacity ≡ c.self.inside.queue.cap = ap (λ u. u.capacity) is ∙ ap (λ t. t.slots) link ∙ c.self.invariant in
    (sends _ _ v c.args.piece (ap (λ u. u.role) is) most carried (rw sent c.requires.joined), learns_sent _ v (ap (λ u. u.role) is))
