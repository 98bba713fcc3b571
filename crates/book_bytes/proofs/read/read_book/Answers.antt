-- `book_bytes::read::read_book` meets its contract.
use Prim.Native.Nat.{ℕ, ◌+◌, ◌≤◌, ◌-◌}
use native.Mathlib.Omega.{arith}
use mathlib.Core.Path.{◌≡◌, sym, ap, ◌∙◌}
use mathlib.Core.List.{List}
use mathlib.Core.Bool.{true}
use borrow.Author.Rules.{rules}
use lib.ListN.{length, take, drop, get_or, length-drop}
use Rattle.std.proofs.lemmas.List.{take_rest}
use Rattle.synthdef.specs.Limits.{allowed}
use Rattle.def_book.specs.Read.{gives, malformed, limits, def_of}
use Rattle.def_book.specs.Rows.{is_heading, rows, size, nodes_of}
use Rattle.def_book.specs.Body.{body_of}
use Rattle.def_book.specs.declared.body.Body.{Body}
use Rattle.def_book.proofs.Walk.{record_fits}
use Rattle.def_book.proofs.Gather.{size_fits}
use Rattle.def_book.proofs.Reading.{built, no_heading, not_taken, not_many, beyond, given}
use Rattle.book_bytes.proofs.read.read_book.Goals as goal
use Rattle.book_bytes.proofs.read.read_book.Goals.{After-allowed, After-rows_of-b, Else-b-n, Else-b-from, Else-not-is_heading}

-- behind each test, what it says of the book
heading : (c : Else-not-is_heading) → is_heading c.args.s.now ≡ true
heading c = sym c.is_heading.ensures ∙ c.if-not-is_heading.false

six : (c : Else-not-is_heading) → 6 ≤ length c.args.s.now
six c = record_fits 1 6 c.args.s.now (heading c)

body : (s : List ℕ) {b : Body} → b ≡ body_of (rows (take (length s - 6) (drop 6 s))) → b ≡ body_of (rows (drop 6 s))
body s e = e ∙ ap (λ l. body_of (rows l)) (take_rest s 6)

end : (c : After-rows_of-b) → c.rows_of-b.result.end ≡ size (rows (drop 6 c.args.s.now))
end c = ap (λ b. b.end) (body c.args.s.now c.rows_of-b.ensures)

count : (c : After-rows_of-b) → c.rows_of-b.result.nodes.count ≡ length (nodes_of (rows (drop 6 c.args.s.now)))
count c = ap (λ b. b.nodes.count) (body c.args.s.now c.rows_of-b.ensures)

all : (c : Else-b-n) → size (rows (drop 6 c.args.s.now)) ≡ length (drop 6 c.args.s.now)
all c =
    let s = c.args.s.now in
    sym (ap (λ b. b.end) (body s c.rows_of-b.ensures)) ∙ c.if-b-n.false ∙ sym (length-drop 6 s)

-- as many nodes as the heading says
many : (c : Else-b-from) → length (nodes_of (rows (drop 6 c.args.s.now))) ≡ get_or c.args.s.now 4 0
many c =
    let s = c.args.s.now in
    sym (ap (λ b. b.nodes.count) (body s c.rows_of-b.ensures)) ∙ c.if-b-from.false ∙ c.from.ensures ∙ c.byte_at.ensures

-- the definition that is tested
made : (c : After-allowed) → c.allowed.result ≡ allowed (def_of (get_or c.args.s.now 5 0) (rows (drop 6 c.args.s.now)))
made c = c.allowed.ensures ∙ ap allowed (built _ _ _ _ (body c.args.s.now c.rows_of-b.ensures) c.byte_at-2.ensures)

pub returns-then-not-is_heading : goal.returns-then-not-is_heading
returns-then-not-is_heading c = search (rules, no_heading)

pub overflow_add-result : goal.overflow_add-result
overflow_add-result c =
    let s = c.args.s.now in
    let at = goal.at.overflow_add-result c in
    omega (arith, end at.After-rows_of-b, size_fits (drop 6 s), length-drop 6 s, six at.Else-not-is_heading)

pub returns-then-b-n : goal.returns-then-b-n
returns-then-b-n c =
    let s = c.args.s.now in
    let at = goal.at.returns-then-b-n c in
    let e = end at.After-rows_of-b in
    ap (λ k. malformed (6 + k)) e ∙ sym (not_taken s (heading at.Else-not-is_heading) (λ k. c.if-b-n.true (e ∙ k ∙ length-drop 6 s)))

pub returns-then-b-from : goal.returns-then-b-from
returns-then-b-from c =
    let s = c.args.s.now in
    let at = goal.at.returns-then-b-from c in
    let byte = c.from.ensures ∙ c.byte_at.ensures in
    let other = not_many s (heading at.Else-not-is_heading) (all at.Else-b-n) (λ k. c.if-b-from.true (count at.After-rows_of-b ∙ k ∙ sym byte)) in
    let whole : length s ≡ 6 + length (drop 6 s) = omega (arith, length-drop 6 s, six at.Else-not-is_heading) in
    ap malformed whole ∙ sym other

pub returns-then-not-allowed : goal.returns-then-not-allowed
returns-then-not-allowed c =
    let at = goal.at.returns-then-not-allowed c in
    let no = sym (made at.After-allowed) ∙ c.if-not-allowed.true in
    let counted = ap (λ (b : Body). limits b.nodes.count b.edges.count) (body c.args.s.now c.rows_of-b.ensures) in
    counted ∙ sym (beyond c.args.s.now (heading at.Else-not-is_heading) (all at.Else-b-n) (many at.Else-b-from) no)

pub returns : goal.returns
returns c =
    let s = c.args.s.now in
    let at = goal.at.returns c in
    let yes = sym (made at.After-allowed) ∙ c.if-not-allowed.false in
    let made_of = built _ _ _ _ (body s c.rows_of-b.ensures) c.byte_at-2.ensures in
    ap gives made_of ∙ sym (given s (heading at.Else-not-is_heading) (all at.Else-b-n) (many at.Else-b-from) yes)
