-- Texts added one after the other, a voice's line, and the page of one voice more.
use Rattle.std.proofs.Common.{◌≡◌, ◌∙◌, ◌≤◌, ◌<◌, ◌+◌, ap, sym, refl, List, [], ◌∷◌, ◌++◌, ℕ, Option}
use Rattle.std.proofs.Common.{length, get_or, take, take-suc, length-append, append_assoc, append-nil, add-one, arith}
use Rattle.node.specs.Silence.{bytes}
use Rattle.voice.specs.declared.voices.Voice.{Voice}
use Rattle.model.specs.Decimal.{decimal}
use Rattle.model.specs.Page.{age, header, line, lines, page, port_text, word}
use Rattle.engine.specs.Text.{Added}

-- how long the whole is
pub long : {m : ℕ} {text x y : List ℕ} → Added m text x y → length y ≤ length x + m
long {text = text} {x} e = rw e.placed (omega (arith, length-append x text, e.fits))

pub added : (m : ℕ) {text x y : List ℕ} → y ≡ x ++ text → length text ≤ m → Added m text x y
added m e h = record { placed = e; fits = h }

pub then : {m n : ℕ} {a b x y z : List ℕ} → Added m a x y → Added n b y z → Added (m + n) (a ++ b) x z
then {a = a} {b} {x} e f =
    record {
      placed = f.placed ∙ ap (λ l. l ++ b) e.placed ∙ append_assoc x a b;
      fits = omega (arith, e.fits, f.fits, length-append a b);
    }

-- the same text, in more room
pub widened : {m n : ℕ} {a b x y : List ℕ} → m ≤ n → a ≡ b → Added m a x y → Added n b x y
widened h t e = rw (← t) (record { placed = e.placed; fits = omega (arith, e.fits) })

-- a voice's line, field by field
regrouped : (s a b c d : List ℕ)
    → (((a ++ s) ++ (b ++ s)) ++ (c ++ s)) ++ d ≡ a ++ (s ++ (b ++ (s ++ (c ++ (s ++ d)))))
regrouped s a b c d = simp append_assoc

pub line_is : (clock : ℕ) (o : Option ℕ) (v : Voice)
    → (((decimal v.id.0 ++ bytes " ") ++ (decimal (age clock v) ++ bytes " ")) ++ (port_text o ++ bytes " "))
    ++ (word v.state ++ bytes "\n") ≡ line clock o v
line_is clock o v =
    regrouped (bytes " ") (decimal v.id.0) (decimal (age clock v)) (port_text o) (word v.state ++ bytes "\n")

module _ (clock : ℕ) (port : Voice → Option ℕ) where
  abbrev of : Voice → List ℕ
  of v = line clock (port v) v

  lines_both : (a b : List Voice) → lines clock port (a ++ b) ≡ lines clock port a ++ lines clock port b
  lines_both [] b = refl
  lines_both (v ∷ a) b =
      ap (◌++◌ (of v)) (lines_both a b) ∙ sym (append_assoc (of v) (lines clock port a) (lines clock port b))

  lines_more : (i : ℕ) (rows : List Voice) (d : Voice) → i < length rows
      → lines clock port (take i rows) ++ of (get_or rows i d) ≡ lines clock port (take (i + 1) rows)
  lines_more i rows d h =
      let v = get_or rows i d in
      let one : lines clock port (v ∷ []) ≡ of v = append-nil (of v) in
      let more = ap (λ (k : ℕ). lines clock port (take k rows)) (add-one i) ∙ ap (lines clock port) (take-suc rows i d h) in
      sym (more ∙ lines_both (take i rows) (v ∷ []) ∙ ap (◌++◌ (lines clock port (take i rows))) one)

  pub page_more : (i : ℕ) (rows : List Voice) (d : Voice) → i < length rows
      → page clock port (take i rows) ++ of (get_or rows i d) ≡ page clock port (take (i + 1) rows)
  page_more i rows d h =
      append_assoc header (lines clock port (take i rows)) (of (get_or rows i d))
      ∙ ap (◌++◌ header) (lines_more i rows d h)
