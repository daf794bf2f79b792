-- Text put behind text.
use Rattle.std.specs.Prelude.{ℕ, ◌+◌, ◌≤◌, ◌≡◌, List, ◌++◌, length, take}
use Rattle.printed.specs.declared.put.Text.{Text}

module _ {most : ℕ} where
  -- all of a text
  abbrev pub said : Text most → List ℕ
  said t = take t.count t.bytes

  -- behind a text so many bytes more have room
  abbrev pub HasRoom : ℕ → Text most → Type 0
  HasRoom n t = t.count + n ≤ length t.bytes

  -- behind the text that stood stand these bytes; the buffer is as long as before
  pub record Put (bytes : List ℕ) (before after : Text most) : Type 0 where
    pub ends : after.count ≡ before.count + length bytes
    pub holds : said after ≡ said before ++ bytes
    pub long : length after.bytes ≡ length before.bytes
