-- `book_bytes::put::clean_bytes` meets its contract.
use mathlib.Core.List.{◌++◌}
use mathlib.Core.Path.{ap, ◌∙◌}
use native.Mathlib.Omega.{arith}
use Prim.Native.Nat.{◌≤◌}
use lib.ListN.{length, drop, replicate, length-take}
use Rattle.std.proofs.lemmas.List.{drop-replicate}
use Rattle.def_book.specs.Held.{held}
use Rattle.def_book.proofs.Puts.{name_filled}
use Rattle.book_bytes.proofs.put.clean_bytes.Goals as goal

pub returns : goal.returns
returns c =
    let t = c.text-name.result.now in
    let few : length t ≤ 16 = omega (arith, ap length c.text-name.ensures, length-take c.args.n.len c.args.n.bytes) in
    ap (λ z. z ++ drop (length t) (replicate 16 0)) c.copy_from_slice.ensures.after
    ∙ ap (λ z. t ++ z) (drop-replicate (length t) 16 0)
    ∙ name_filled t few
    ∙ ap (held 16 0) c.text-name.ensures
