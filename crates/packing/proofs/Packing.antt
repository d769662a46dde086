-- Laws of the trails that hold some marks: one mark more and one mark less, within the top and where it is full.
-- Assumes nothing.
use mathlib.Core.Bool.{true}
use mathlib.Core.List.{List, [], ◌∷◌}
use mathlib.Core.Path.{◌≡◌, refl, sym, ◌∙◌, ap}
use Prim.Native.Nat.{ℕ, ◌+◌, ◌-◌, ◌*◌, ◌/◌, ◌%◌, ◌≤◌, ◌<◌}
use native.Mathlib.Omega.{arith}
use lib.Dec.{eqb, leb}
use lib.ListN.{length, get_or, set, length-set}
use lib.Seq.{get_or-set_same}
use borrow.Author.Tests.{le-leb, leb-true, eqb-true, eqb-false}
use Rattle.counting.specs.Tests.{bit}
use Rattle.counting.proofs.Joined.{no_way, by_test, and_intro, and_left, and_right, bit_le_one}
use Rattle.trail.specs.Trail.{mark_room, is_part}
use Rattle.model.specs.Marking.{unmarked}
use Rattle.model.specs.State.{are_marks}
use Rattle.packing.specs.declared.PackedTrail.{PackedTrail}
use Rattle.packing.specs.Packed.{word_marks, word_room, top_room, marks_of, packed_in, parts_in, earlier, last_of, Packs}
use Rattle.packing.proofs.Digits.{marks_none, marks_last, marks_within, marks_one, marks_full, marks_rem, marks_set, marks_replace}

-- the packed trail of these fields
abbrev pub packed_with : List ℕ → ℕ → ℕ → ℕ → PackedTrail
packed_with words top len parts = record { words = words; top = top; len = len; parts = parts }

-- no marks
pub packs_none :
    (words : List ℕ) (len parts : ℕ) → length words ≡ word_room → len ≡ 0 → parts ≡ 0 → Packs (packed_with words unmarked len parts) []
unfolding packed_in are_marks last_of parts_in earlier
packs_none words len parts w e k =
    record {
      holds = ap (marks_of words unmarked) e ∙ marks_none words unmarked;
      long = e;
      fits = omega arith;
      marks = refl;
      ends = refl;
      counted = k;
      wide = w;
    }

-- the marks 0 or 1 among all, from those among all but the last
pub parts_all : (τ : List ℕ) → parts_in (earlier τ) + bit (is_part (last_of τ)) ≡ parts_in τ
unfolding parts_in earlier last_of bit
parts_all [] = refl
parts_all (x ∷ τ) = omega arith

pub parts_few : (τ : List ℕ) → parts_in τ ≤ length τ
unfolding parts_in
parts_few [] = omega arith
parts_few (x ∷ τ) = omega (arith, parts_few τ, bit_le_one (is_part x))

earlier_few : (τ : List ℕ) → parts_in (earlier τ) ≤ length τ
unfolding earlier
earlier_few [] = parts_few []
earlier_few (x ∷ τ) = omega (arith, parts_few τ)

-- one mark more is one more mark
marks_more : (x : ℕ) (τ : List ℕ) → x ≤ 2 → are_marks τ ≡ true → are_marks (x ∷ τ) ≡ true
unfolding are_marks
marks_more x τ b h = and_intro (le-leb x 2 b) h

pub marks_first : (x : ℕ) (τ : List ℕ) → are_marks (x ∷ τ) ≡ true → x ≤ 2
unfolding are_marks
marks_first x τ h = leb-true x 2 (and_left (leb x 2) (are_marks τ) h)

pub marks_rest : (x : ℕ) (τ : List ℕ) → are_marks (x ∷ τ) ≡ true → are_marks τ ≡ true
unfolding are_marks
marks_rest x τ h = and_right (leb x 2) (are_marks τ) h

-- the lowest digit of the top is the last mark
pub last_read : {t : PackedTrail} {x : ℕ} {τ : List ℕ} → Packs t (x ∷ τ) → t.top % 4 ≡ x
unfolding last_of
last_read p = p.ends

-- a trail that holds marks counts those 0 or 1, the last included
pub counted_all : {t : PackedTrail} {τ : List ℕ} → Packs t τ → t.parts + bit (is_part (t.top % 4)) ≡ parts_in τ
counted_all {t} {τ} p =
    ap (λ (k : ℕ). k + bit (is_part (t.top % 4))) p.counted
    ∙ ap (λ (x : ℕ). parts_in (earlier τ) + bit (is_part x)) p.ends
    ∙ parts_all τ

-- and has room for its count
pub counted_few : {t : PackedTrail} {τ : List ℕ} → Packs t τ → length τ < mark_room → t.parts < mark_room
counted_few {t} {τ} p b = omega (arith, p.counted, earlier_few τ)

-- a trail with one mark more
packs_more :
    (t : PackedTrail) (words : List ℕ) (top parts mark : ℕ) (τ : List ℕ) → Packs t τ → t.len < mark_room → mark ≤ 2 → top % 4 ≡ mark →
    marks_of words top (t.len + 1) ≡ top % 4 ∷ marks_of t.words t.top t.len → parts ≡ parts_in τ → length words ≡ word_room →
    Packs (packed_with words top (t.len + 1) parts) (mark ∷ τ)
unfolding last_of earlier packed_in
packs_more t words top parts mark τ p b m low h k w =
    record {
      holds = h ∙ ap (◌∷ marks_of t.words t.top t.len) low ∙ ap (mark ∷◌) p.holds;
      long = omega (arith, p.long);
      fits = omega (arith, p.long);
      marks = marks_more mark τ m p.marks;
      ends = low;
      counted = k;
      wide = w;
    }

-- in a top that is not full
pub packs_append :
    (t : PackedTrail) (parts mark : ℕ) (τ : List ℕ) → Packs t τ → t.len < mark_room → (t.len % word_marks ≡ 0 → ⊥) → mark ≤ 2 → parts ≡ parts_in τ →
    Packs (packed_with t.words (t.top % top_room * 4 + mark % 4) (t.len + 1) parts) (mark ∷ τ)
packs_append t parts mark τ p b d m k =
    let top = t.top % top_room * 4 + mark % 4 in
    let rest : top / 4 ≡ t.top % top_room = omega arith in
    packs_more t t.words top parts mark τ p b m (omega arith)
    (marks_within t.words top t.len d
    ∙ ap (λ (v : ℕ). top % 4 ∷ marks_of t.words v t.len) rest
    ∙ ap (top % 4 ∷◌) (marks_rem t.words t.top t.len d))
    k
    p.wide

-- on a full top, which becomes a word, or on none
append_word_holds :
    (words : List ℕ) (top v len : ℕ) → len < mark_room → len % word_marks ≡ 0 → length words ≡ word_room →
    marks_of (set words (len / word_marks - 1) top) v (len + 1) ≡ v % 4 ∷ marks_of words top len
append_word_holds words top v len b d wide =
    by_test
    (eqb len 0)
    (λ e. rw (eqb-true len 0 e) (marks_one (set words (0 / word_marks - 1) top) words v top))
    (λ e. let some : 0 < len = omega (arith, eqb-false len 0 e) in
    let w = len / word_marks - 1 in
    marks_full (set words w top) v len d some
    ∙ ap (λ (u : ℕ). v % 4 ∷ marks_of (set words w top) u len) (get_or-set_same words w top 0 (omega arith))
    ∙ ap (v % 4 ∷◌) (marks_set words top top len d))

pub packs_append_word :
    (t : PackedTrail) (w parts mark : ℕ) (τ : List ℕ) → Packs t τ → t.len < mark_room → t.len % word_marks ≡ 0 → mark ≤ 2 →
    w ≡ t.len / word_marks - 1 → parts ≡ parts_in τ →
    Packs (packed_with (set t.words w t.top) (mark % 4) (t.len + 1) parts) (mark ∷ τ)
packs_append_word t w parts mark τ p b d m e k =
    packs_more t (set t.words w t.top) (mark % 4) parts mark τ p b m (omega arith)
    (rw e (append_word_holds t.words t.top (mark % 4) t.len b d p.wide))
    k
    (length-set t.words w t.top ∙ p.wide)

-- a trail with one mark less, and some left
packs_less :
    (t : PackedTrail) (top at parts x : ℕ) (τ : List ℕ) → Packs t (x ∷ τ) → t.len ≡ at + 1 → 0 < at →
    marks_of t.words t.top (at + 1) ≡ t.top % 4 ∷ marks_of t.words top at → parts ≡ t.parts - bit (is_part (top % 4)) →
    Packs (packed_with t.words top at parts) τ
unfolding packed_in earlier
packs_less t top at parts x τ p e b h k =
    let held : marks_of t.words top at ≡ τ =
    ap earlier (sym h ∙ ap (marks_of t.words t.top) (sym e) ∙ p.holds) in
    let ended : top % 4 ≡ last_of τ = sym (marks_last t.words top at b) ∙ ap last_of held in
    record {
      holds = held;
      long = omega (arith, p.long);
      fits = omega (arith, p.fits);
      marks = marks_rest x τ p.marks;
      ends = ended;
      counted = omega (arith, k, p.counted, parts_all τ, ap (λ (y : ℕ). bit (is_part y)) ended);
      wide = p.wide;
    }

-- of a top that has others
pub packs_drop :
    (t : PackedTrail) (at parts x : ℕ) (τ : List ℕ) → Packs t (x ∷ τ) → at ≡ t.len - 1 → (at % word_marks ≡ 0 → ⊥) →
    parts ≡ t.parts - bit (is_part (t.top / 4 % 4)) → Packs (packed_with t.words (t.top / 4) at parts) τ
packs_drop t at parts x τ p e d k =
    packs_less t (t.top / 4) at parts x τ p (omega (arith, p.long)) (omega arith) (marks_within t.words t.top at d) k

-- of a top that has no other: the last word becomes the top
pub packs_drop_word :
    (t : PackedTrail) (at w parts x : ℕ) (τ : List ℕ) → Packs t (x ∷ τ) → at ≡ t.len - 1 → at % word_marks ≡ 0 → 0 < at → w ≡ at / word_marks - 1 →
    parts ≡ t.parts - bit (is_part (get_or t.words w 0 % 4)) → Packs (packed_with t.words (get_or t.words w 0) at parts) τ
packs_drop_word t at w parts x τ p e d b f k =
    packs_less t (get_or t.words w 0) at parts x τ p (omega (arith, p.long)) b
    (marks_full t.words t.top at d b ∙ ap (λ (i : ℕ). t.top % 4 ∷ marks_of t.words (get_or t.words i 0) at) (sym f))
    k

-- of a trail that has no other
pub packs_drop-only :
    (t : PackedTrail) (at x : ℕ) (τ : List ℕ) → Packs t (x ∷ τ) → at ≡ t.len - 1 → at ≡ 0 → Packs (packed_with t.words unmarked at t.parts) τ
unfolding parts_in earlier
packs_drop-only t at x [] p e z = packs_none t.words at t.parts p.wide z p.counted
packs_drop-only t at x (y ∷ τ) p e z = no_way (omega (arith, p.long))

-- a trail with another last mark
pub packs_replace :
    (t : PackedTrail) (x mark : ℕ) (τ : List ℕ) → Packs t (x ∷ τ) → mark ≤ 2 →
    Packs (packed_with t.words (t.top / 4 * 4 + mark) t.len t.parts) (mark ∷ τ)
unfolding packed_in earlier last_of
packs_replace t x mark τ p m =
    record {
      holds =
          marks_replace t.words t.top mark t.len (omega (arith, p.long)) (omega arith)
          ∙ ap (λ (ρ : List ℕ). mark ∷ earlier ρ) p.holds;
      long = p.long;
      fits = p.fits;
      marks = marks_more mark τ m (marks_rest x τ p.marks);
      ends = omega arith;
      counted = p.counted;
      wide = p.wide;
    }
