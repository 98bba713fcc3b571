-- `book_bytes::field::name_at` meets its contract: an array that is made by its places has at each place what the call there gave.
use Rattle.std.proofs.Common.{◌+◌, ◌≡◌, ◌∙◌, sym, drop, get_or, rules, tests}
use lib.Seq.{get_or-drop}
use Rattle.lists.proofs.FromFn.{made_is}
use Rattle.def_book.specs.Held.{held}
use Rattle.def_book.proofs.Held.{length_held, get_d_held}
use Rattle.book_bytes.proofs.field.name_at.Goals as goal

pub returns : goal.returns
returns c =
    let s = c.args.s.now in
    let bytes = made_is _ _ c.from_fn.result (held 16 0 (drop 5 s)) 0 16 (λ i x q h p.
    let there : x ≡ get_or s (5 + i) 0 = search (rules, tests) in
    (search rules, there ∙ sym (get_d_held 0 16 (drop 5 s) i h ∙ get_or-drop 5 s i 0))) (length_held 0 16 (drop 5 s)) c.from_fn.ensures.items in
    cc (bytes, c.byte_at.ensures)
