-- The tokens that a cursor has before it.
use Rattle.std.specs.Prelude.{List, [], if◌then◌else◌}
use Rattle.cmb_bench.specs.declared.text.Token.{Token}
use Rattle.cmb_bench.specs.declared.text.Cursor.{Cursor}
use Rattle.cmb_bench.specs.Text.{Word, word_of, Lexeme, tokens_from}
use Rattle.cmb_bench.specs.Inner.Word.{is_end}
use Rattle.cmb_bench.specs.Inner.Snippet.{snippets_of}

-- the tokens from a cursor on
unfoldable pub scan : Cursor → List Lexeme
scan cursor = tokens_from cursor.line cursor.last (snippets_of cursor.rest.now)

abbrev pub lexeme : Token → Lexeme
lexeme token = record { word = word_of token.class token.text.now; line = token.line }

-- what comes after a token
abbrev pub behind : Word → List Lexeme → List Lexeme
behind word after = if is_end word then [] else after
