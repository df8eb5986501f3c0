-- The snippets that the bytes of a `.bench` text are cut into, and its tokens.
-- A snippet is a white byte (space, tab, CR, LF), a comment (`#` and what stands before the next LF), one of `(` `)` `,` `=`,
-- a name (a longest run of other bytes from 33 to 126) or a bad byte. The tokens are the snippets that are neither white nor a
-- comment, and then the end of input.
use Rattle.std.specs.Prelude.{◌≡◌, ℕ, ◌+◌, List, [], ◌∷◌, ◌++◌, Bool, true, false, not, ◌&&◌, ◌||◌, nat_le, nat_eq, if◌then◌else◌}
use Rattle.std.specs.List.{AllByRecursion}
use Rattle.cmb_bench.specs.declared.text.Class.{Class}
use Rattle.cmb_bench.specs.declared.text.Class.TheVariants.{White, Comment, Open, Close, Comma, Equals, Name, Bad, End}

-- the class of a snippet that begins with this byte
abbrev pub class_of : ℕ → Class
class_of b =
    if (((nat_eq b 32 || nat_eq b 9) || nat_eq b 13) || nat_eq b 10) then White
    else (if nat_eq b 35 then Comment
    else (if nat_eq b 40 then Open
    else (if nat_eq b 41 then Close
    else (if nat_eq b 44 then Comma
    else (if nat_eq b 61 then Equals
    else (if nat_le 33 b && nat_le b 126 then Name
    else Bad))))))

-- whether a byte may stand in a name
abbrev pub is_name_class : Class → Bool
is_name_class Name = true
is_name_class _ = false

-- whether a snippet of this class goes on with this byte: a comment up to the next line feed, a name with the bytes of names, and no other snippet
abbrev pub continues : Class → ℕ → Bool
continues Comment b = not (nat_eq b 10)
continues Name b = is_name_class (class_of b)
continues _ b = false

-- a snippet of the text: a white byte, a comment, a mark, a name or a bad byte
pub record Snippet : Type 0 where
  pub class : Class
  pub bytes : List ℕ

-- no snippet of this class goes on with these bytes
abbrev pub StopsBefore : Class → List ℕ → Type 0
StopsBefore class [] = Unit {0}
StopsBefore class (b ∷ rest) = continues class b ≡ false

-- these bytes are a whole snippet of this class, where the rest follows
abbrev pub IsSnippet : Class → List ℕ → List ℕ → Type 0
IsSnippet class [] rest = ⊥
IsSnippet class (b ∷ bs) rest = (class_of b ≡ class) × AllByRecursion (λ x. continues class x ≡ true) bs × StopsBefore class rest

-- the bytes are these snippets put together; each text has one such cutting
abbrev pub IsCutting : List ℕ → List Snippet → Type 0
IsCutting bytes [] = bytes ≡ []
IsCutting bytes (p ∷ ps) = (rest : List ℕ) × (bytes ≡ p.bytes ++ rest) × IsSnippet p.class p.bytes rest × IsCutting rest ps

-- what a token says: a name, or which mark it is; a bad byte and the end of input are marks too
pub data Word : Type 0 where
  name : List ℕ → Word
  mark : Class → Word

-- what a snippet of this class and these bytes says
abbrev pub word_of : Class → List ℕ → Word
word_of Name bytes = name bytes
word_of class bytes = mark class

-- a token, with the line on which it begins
pub record Lexeme : Type 0 where
  pub word : Word
  pub line : ℕ

-- whether a snippet of this class is a token
abbrev pub is_token : Class → Bool
is_token White = false
is_token Comment = false
is_token _ = true

-- how many line feeds there are
abbrev pub line_feeds : List ℕ → ℕ
line_feeds [] = 0
line_feeds (b ∷ bs) = (if nat_eq b 10 then 1 else 0) + line_feeds bs

-- the tokens of the snippets, where the first snippet begins on this line and the last token before it on that one;
-- the end of input has the line of the token before it
abbrev pub tokens_from : ℕ → ℕ → List Snippet → List Lexeme
tokens_from line last [] = record { word = mark End; line = last } ∷ []
tokens_from line last (p ∷ ps) =
    if is_token p.class then record { word = word_of p.class p.bytes; line = line } ∷ tokens_from (line + line_feeds p.bytes) line ps
    else tokens_from (line + line_feeds p.bytes) last ps

-- the tokens of a text that is cut into these snippets; lines are counted from 1
abbrev pub tokens_of : List Snippet → List Lexeme
tokens_of snippets = tokens_from 1 1 snippets
