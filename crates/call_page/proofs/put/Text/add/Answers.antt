use mathlib.Core.Path.{◌≡◌, refl}
use borrow.Author.Rules.{rules}
use lib.ListN.{length}
use Rattle.call_page.proofs.Puts.{add_is}
use Rattle.call_page.proofs.put.Text.add.Goals as goal

pub returns : goal.returns
returns c =
    let old = c.args.self.now in
    let long : length old.bytes ≡ 4501 = search rules in
    add_is old.bytes c.args.s.now old.len c.min-at.result c.min-n.result long c.min-at.ensures c.min-n.ensures c.copy-self.new.out c.copy-self.ensures.placed _ refl
