-- A text whose entries are accepted has all its lines below the size line noted in the table of cells, as many entries among them as its size line
-- says, each standing for one nonzero or two.
-- Assumes nothing.
use Rattle.std.specs.Prelude.{Ok, Err}
use mathlib.Core.Bool.{Bool, true, false, not}
use mathlib.Core.List.{List}
use mathlib.Core.Path.{◌≡◌, refl, sym, ◌∙◌, ap}
use mathlib.Core.Logic.{inl, inr}
use Prim.Native.Nat.{ℕ, zero, suc, ◌+◌, ◌*◌, ◌≤◌, ◌<◌}
use native.Mathlib.Omega.{arith}
use lib.Dec.{eqb, ltb, leb}
use lib.ListN.{length}
use borrow.Author.Tests.{ltb-true, ltb-false, leb-false}
use Rattle.counting.specs.Tests.{◌and◌, pick, bit}
use Rattle.counting.specs.Sums.{count}
use Rattle.counting.proofs.Joined.{by_test, never, and_passed, and_fails_left, pick_true, pick-false}
use Rattle.counting.proofs.Summed.{sum-none}
use Rattle.model.specs.Refusal.{Verdict, accepted}
use Rattle.model.specs.declared.Word.TheVariants.{Count}
use Rattle.model.specs.Limits.{line_limit}
use Rattle.model.proofs.Theorems.Checks.{refuse-not, then-first, then-second}
use Rattle.scanning.specs.Lines.{empty_line}
use Rattle.scanning.proofs.Scans.{next_after}
use Rattle.texts.specs.declared.Header.{Header}
use Rattle.texts.specs.Header.{header_of}
use Rattle.texts.specs.Entries.{no_cells, line_verdict, opened, noted, end_verdict, Entries, after, entries_from}
use Rattle.texts.proofs.Cells.{ended, later, one_line, entries_end, entries_none, entries-one}
use Rattle.readback.specs.TextSays.{line_below, is_entry, entry_below}
use Rattle.counting.proofs.Passed.{count_passed, count_failed}
use Rattle.readback.proofs.Table.{mark_range}
use Rattle.readback.proofs.Entered.{CellIn, Entered, cell_before_lem, entered-none, entered-more}
use Rattle.readback.proofs.LinesBelow.{line_more, entry_so, entry_not}
use Rattle.readback.proofs.Mirror.{cell_below, mirror_below, mark_below, Own, own_in}
use Rattle.readback.proofs.Noted.{Noted, noted-start, empty_more, own_free, entry_more, check_form, check_free}

-- after a line the reading goes on, or its verdict is a refusal
goes_on : (v : Verdict) (cells : List ℕ) (rest : Entries) → (after v cells rest).verdict ≡ accepted → (v ≡ accepted) × (after v cells rest ≡ rest)
unfolding after
goes_on (Ok _) cells rest e = (refl, refl)
goes_on (Err refusal) cells rest e = never (cc)

-- an entry's line that stands for one nonzero alone
abbrev pub is_alone : List ℕ → ℕ → Bool
is_alone text k = is_entry text k and eqb (mirror_below text k) (cell_below text k)

-- the table after so many lines, of which `seen` are entries
record Reached (text : List ℕ) (lines seen : ℕ) (cells : List ℕ) : Type 0 where
  few : seen ≤ (header_of text).entries
  read : Noted text lines cells
  entries : count (is_entry text) lines ≡ seen
  size : ℕ
  entered : Entered (header_of text).m (header_of text).n cells size
  sized : size + count (is_alone text) lines ≡ 2 * seen

-- the table after all lines
pub record AllNoted (text cells : List ℕ) : Type 0 where
  pub lines : ℕ
  pub over : length text ≤ line_below text lines
  pub noted_all : Noted text lines cells
  pub number : count (is_entry text) lines ≡ (header_of text).entries
  pub size : ℕ
  pub entered : Entered (header_of text).m (header_of text).n cells size
  pub sized : size + count (is_alone text) lines ≡ 2 * (header_of text).entries

module _
    (text : List ℕ) (rows : (header_of text).m ≤ line_limit) (columns : (header_of text).n ≤ line_limit)
    (square : (header_of text).symmetric ≡ true → (header_of text).m ≡ (header_of text).n) where
  abbrev h : Header
  h = header_of text

  -- an empty line more
  empty_reached : (lines seen : ℕ) (cells : List ℕ) → empty_line text (line_below text lines) ≡ true → Reached text lines seen cells → Reached text (suc lines) seen cells
  empty_reached lines seen cells z r =
      let none = entry_not text lines z in
      record {
        few = r.few;
        read = empty_more r.read none;
        entries = count_failed (is_entry text) lines none ∙ r.entries;
        size = r.size;
        entered = r.entered;
        sized = omega (arith, r.sized, count_failed (is_alone text) lines (and_fails_left _ none));
      }

  -- an entry more
  module _ (lines seen : ℕ) (cells : List ℕ) (filled : is_entry text lines ≡ true) (v : line_verdict text h (line_below text lines) seen cells ≡ accepted)
      (z : empty_line text (line_below text lines) ≡ false) (r : Reached text lines seen cells) where
    alone_more : pick (eqb (mirror_below text lines) (cell_below text lines)) 1 2 + count (is_alone text) (suc lines) ≡ count (is_alone text) lines + 2
    alone_more =
        let same = eqb (mirror_below text lines) (cell_below text lines) in
        let alone = and_passed same filled in
        by_test
        same
        (λ y. omega (arith, pick_true {A = ℕ} 1 2 y, count_passed (is_alone text) lines (alone ∙ y)))
        (λ y. omega (arith, pick-false {A = ℕ} 1 2 y, count_failed (is_alone text) lines (alone ∙ y)))

    entry_reached : Reached text (suc lines) (seen + 1) (opened h (entry_below text lines) cells)
    unfolding line_verdict opened
    entry_reached =
        let at = line_below text lines in
        let checks = sym (pick-false accepted _ z) ∙ v in
        let below = leb-false h.entries seen (refuse-not (leb h.entries seen) Count at (then-first _ _ checks)) in
        let form = check_form text lines at cells (then-second _ _ checks) in
        let free = check_free text lines at cells (then-second _ _ checks) in
        let inside : (p : ℕ) → Own text lines p → CellIn h.m h.n p = λ p o. own_in text rows columns lines p square form o in
        let whole : (p : ℕ) → Own text lines p → p < length cells = λ p o. omega (arith, cell_before_lem (inside p o), r.entered.whole) in
        let mark = mark_range (entry_below text lines).third in
        record {
          few = omega arith;
          read = entry_more r.read rows columns form whole free filled;
          entries = omega (arith, count_passed (is_entry text) lines filled, r.entries);
          size = r.size + pick (eqb (mirror_below text lines) (cell_below text lines)) 1 2;
          entered =
              entered-more
              r.entered
              (cell_below text lines)
              (mirror_below text lines)
              (mark_below text lines)
              rows
              (inside (cell_below text lines) (inl refl))
              (inside (mirror_below text lines) (inr refl))
              free
              (own_free r.read rows columns form whole free (mirror_below text lines) (inr refl))
              mark.0
              mark.1;
          sized = omega (arith, r.sized, alone_more);
        }

  -- one line more
  line_reached :
      (lines seen : ℕ) (cells : List ℕ) → line_below text lines < length text → line_verdict text h (line_below text lines) seen cells ≡ accepted →
      Reached text lines seen cells →
      Reached text (suc lines) (seen + bit (not (empty_line text (line_below text lines)))) (noted text h (line_below text lines) cells)
  unfolding noted entry_below
  line_reached lines seen cells there v r =
      let empty = empty_line text (line_below text lines) in
      by_test
      empty
      (λ z. let none = entries_none empty z in
      let same : seen ≡ seen + bit (not empty) = omega arith in
      rw (sym same, pick_true cells _ z) (empty_reached lines seen cells z r))
      (λ z. rw (sym (entries-one empty z), pick-false cells _ z) (entry_reached lines seen cells (entry_so text lines there z) v z r))

  -- the end of the text
  end_reached :
      (lines seen : ℕ) (cells : List ℕ) → length text ≤ line_below text lines → (ended text h seen cells).verdict ≡ accepted →
      Reached text lines seen cells → AllNoted text (ended text h seen cells).cells
  unfolding ended end_verdict
  end_reached lines seen cells over v r =
      let all = ltb-false seen h.entries (refuse-not (ltb seen h.entries) Count (length text) v) in
      let same : seen ≡ h.entries = omega (arith, r.few) in
      record {
        lines = lines;
        over = over;
        noted_all = r.read;
        number = r.entries ∙ same;
        size = r.size;
        entered = r.entered;
        sized = r.sized ∙ ap (λ k. 2 * k) same;
      }

  -- all lines, looking at enough of them
  lines-reached :
      (k lines seen : ℕ) (cells : List ℕ) → length text ≤ line_below text lines + k →
      (entries_from text h k (line_below text lines) seen cells).verdict ≡ accepted → Reached text lines seen cells →
      AllNoted text (entries_from text h k (line_below text lines) seen cells).cells
  unfolding later
  lines-reached zero lines seen cells enough v r =
      let end = entries_end text h zero (line_below text lines) seen cells (omega arith) in
      rw end (end_reached lines seen cells (omega arith) (ap (λ (x : Entries). x.verdict) (sym end) ∙ v) r)
  lines-reached (suc k) lines seen cells enough v r =
      by_test
      (ltb (line_below text lines) (length text))
      (λ z. let at = line_below text lines in
      let there = ltb-true at (length text) z in
      let line = one_line text h k at seen cells there in
      let g = goes_on (line_verdict text h at seen cells) cells (later text h k at seen cells) (ap (λ (x : Entries). x.verdict) (sym line) ∙ v) in
      let more = bit (not (empty_line text at)) in
      let all =
      line ∙ g.1 ∙ ap (λ next. entries_from text h k next (seen + more) (noted text h at cells)) (sym (line_more text lines)) in
      rw all
      (lines-reached
      k
      (suc lines)
      (seen + more)
      (noted text h at cells)
      (omega (arith, line_more text lines, next_after text at there))
      (ap (λ (x : Entries). x.verdict) (sym all) ∙ v)
      (line_reached lines seen cells there g.0 r)))
      (λ z. let over = ltb-false (line_below text lines) (length text) z in
      let end = entries_end text h (suc k) (line_below text lines) seen cells over in
      rw end (end_reached lines seen cells over (ap (λ (x : Entries). x.verdict) (sym end) ∙ v) r))

  pub all_noted :
      (entries_from text (header_of text) (length text) (header_of text).next 0 no_cells).verdict ≡ accepted →
      AllNoted text (entries_from text (header_of text) (length text) (header_of text).next 0 no_cells).cells
  unfolding line_below
  all_noted v =
      lines-reached
      (length text)
      0
      0
      no_cells
      (omega arith)
      v
      (record {
        few = omega arith;
        read = noted-start text;
        entries = sum-none (λ t. bit (is_entry text t));
        size = 0;
        entered = entered-none h.m h.n;
        sized = omega (arith, sum-none (λ t. bit (is_alone text t)));
      })
