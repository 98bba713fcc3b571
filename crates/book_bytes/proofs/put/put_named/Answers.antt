-- `book_bytes::put::put_named` meets its contract.
use mathlib.Core.Path.{refl}
use Rattle.node.specs.Name.{text}
use Rattle.def_book.specs.Held.{held}
use Rattle.def_book.proofs.Puts.{then, copied}
use Rattle.book_bytes.proofs.put.put_named.Goals as goal

pub returns : goal.returns
returns c =
    let a = c.args in
    let r = c.copy-a.ensures in
    let s = c.copy.ensures in
    let t = c.copy-2.ensures in
    let p = copied _ a.head.now _ _ _ refl r.long r.placed in
    let q = copied _ (held 16 0 (text a.name)) _ _ _ c.clean_bytes-bytes.ensures s.long s.placed in
    let u = copied _ a.behind.now _ _ _ refl t.long t.placed in
    then (then p q) u
