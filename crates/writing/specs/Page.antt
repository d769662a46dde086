-- What a page to write on holds after a text is added to it.
-- Assumes nothing.
use Rattle.std.specs.Prelude.{List, ◌≡◌, ℕ}
use Rattle.writing.specs.declared.write.page.Page.{Page}
use Rattle.writing.specs.Written.{Puts}

-- a text put on a page from its place on, and the place after it; the page is that of the same bytes
pub record Adds (old : Page) (text : List ℕ) (new : Page) : Type 0 where
  pub same : new.bytes.ghost_name ≡ old.bytes.ghost_name
  pub puts : Puts old.bytes.now old.at text new.bytes.now new.at
