-- Laws of texts added to a page one after another.
-- Assumes nothing.
use Rattle.std.proofs.Common.{◌≡◌, ℕ, ◌+◌, ◌≤◌, ◌<◌, List, [], ◌∷◌, ◌++◌, length, take, get_or, refl, sym, ◌∙◌, ap}
use Rattle.std.proofs.Math.Seq.{take-suc, take_all}
use native.Mathlib.Numerals.{add-one}
use native.Mathlib.Omega.{arith}
use Rattle.writing.specs.declared.write.page.Page.{Page}
use Rattle.writing.specs.Written.{Puts, entry_text, entries_text}
use Rattle.writing.specs.Page.{Adds}
use Rattle.writing.proofs.Puttings.{puts_past, puts_none, puts_then, puts_as, number_short, figure_short, caps_short, figures-short, ending-short, sizes_short, entry_short, head_short}

-- nothing added
pub adds_none : (page : Page) → Adds page [] page
adds_none page = record { same = refl; puts = puts_none page.bytes.now page.at }

-- a text after another
pub adds_then : {page mid new : Page} {s t : List ℕ} → Adds page s mid → Adds mid t new → Adds page (s ++ t) new
adds_then p q = record { same = q.same ∙ p.same; puts = puts_then p.puts q.puts }

-- another text that is equal
pub adds_as : {page new : Page} {s t : List ℕ} → s ≡ t → Adds page s new → Adds page t new
adds_as e p = record { same = p.same; puts = puts_as e p.puts }

-- a text added to a page from its start on
pub adds_first :
    {page new : Page} {bytes text : List ℕ} → page.bytes.now ≡ bytes → page.at ≡ 0 → Adds page text new → Puts bytes 0 text new.bytes.now new.at
adds_first e f p = rw (e, f) at p.puts

-- bytes added one by one
pub adds_next :
    {page mid new : Page} (bytes : List ℕ) (i : ℕ) → i < length bytes → Adds page (take i bytes) mid → Adds mid (get_or bytes i 0 ∷ []) new →
    Adds page (take (i + 1) bytes) new
adds_next bytes i l p q =
    adds_as (sym (take-suc bytes i 0 l) ∙ ap (λ k. take k bytes) (sym (add-one i))) (adds_then p q)

pub adds_all : {page new : Page} (bytes : List ℕ) (i : ℕ) → length bytes ≤ i → Adds page (take i bytes) new → Adds page bytes new
adds_all bytes i l p = adds_as (take_all i bytes l) p

-- past the end of a page nothing is put
pub adds_past :
    (page : Page) {text : List ℕ} (count : ℕ) → length page.bytes.now ≤ page.at → count ≡ length text → Adds page text (record page { at = page.at + count })
adds_past page {text} count l e = record { same = refl; puts = puts_past page.bytes.now text page.at count l e }

-- entries one after another
pub adds_no_entry : (list parts : List ℕ) (page : Page) → Adds page (entries_text list parts 0) page
unfolding entries_text
adds_no_entry list parts page = adds_none page

pub adds_entry :
    {page mid new : Page} (list parts : List ℕ) (t : ℕ) → Adds page (entries_text list parts t) mid → Adds mid (entry_text list parts t) new →
    Adds page (entries_text list parts (t + 1)) new
unfolding entries_text
adds_entry list parts t p q = adds_as (rw add-one) (adds_then p q)

-- who adds the rest of a text here adds all of it there
abbrev pub Leads : Page → List ℕ → Page → List ℕ → Type 0
Leads here rest page text = (new : Page) → Adds here rest new → Adds page text new

pub leads_on :
    {here more page : Page} {text rest whole : List ℕ} {b : ℕ} → Leads here text page whole → text ≡ b ∷ rest → Adds here (b ∷ []) more →
    Leads more rest page whole
leads_on leads e put = λ new p. leads new (adds_as (sym e) (adds_then put p))

-- how long the parts of a text are at most
pub ruleset shorts = (arith, number_short, figure_short, caps_short, figures-short, ending-short, sizes_short, entry_short, head_short)
