-- With what the text of a module item begins, and what may follow one.
use Rattle.std.proofs.Common.{◌≡◌, ◌≤◌, ◌<◌, ℕ, true, false, length, Some, None, refl, sym, ◌∙◌, ap, arith, codes}
use Rattle.std.specs.Str.{IsUtf8}
use Rattle.js_term.specs.Term.{Text, Term, depth}
use Rattle.js_syntax.specs.Tokens.{word}
use Rattle.js_tokens.specs.Next.{lexeme}
use Rattle.js_reading.specs.Reading.{is_word, sees_word, at_end}
use Rattle.js_reading.specs.Modules.{module_item}
use Rattle.js_reading.specs.Read.{read}
use Rattle.js_reading.proofs.TokensThere.{Seen, sees_word_by}
use Rattle.js_reading.proofs.TokensEnd.{end_none, some_none, seen_not_end}
use Rattle.js_reading.proofs.StatementStarts.{end_follows, starts, starts_no_word, Follows, starts_follow, token_follows}

-- What comes behind an item takes none of it.
pub record ItemFollows (b : Text) : Type 0 where
  pub follows : Follows b
  pub no_else : sees_word (codes "else") b ≡ false

pub statement_follows_item : (a : Text) → starts (lexeme a) ≡ true → ItemFollows a
statement_follows_item a h = record { follows = starts_follow a h; no_else = starts_no_word (codes "else") a h refl }

pub import_follows : {a b : Text} → Seen (word (codes "import")) a b → ItemFollows a
import_follows {a} tok = statement_follows_item a (ap starts tok.lexeme_is)

pub export_follows : {a b : Text} → Seen (word (codes "export")) a b → ItemFollows a
export_follows tok = record { follows = token_follows tok refl; no_else = sees_word_by (codes "else") tok }

no_word_at_end : (s a : Text) → lexeme a ≡ None → sees_word s a ≡ false
unfolding sees_word
no_word_at_end s a h = ap (is_word s) h

pub end_follows_item : (a : Text) → at_end a ≡ true → ItemFollows a
end_follows_item a h = let is = end_none a h in record { follows = end_follows a h; no_else = no_word_at_end (codes "else") a is }

-- A module item is read before what takes none of it.
pub record IsReadItem (s : Term) (a b : Text) : Type 0 where
  pub utf8 : IsUtf8 b
  pub shorter : length b < length a
  pub more : at_end a ≡ false
  pub token : lexeme a ≡ None → ⊥
  pub follows : ItemFollows a
  pub reads : (limit : ℕ) → depth s ≤ limit → ItemFollows b → module_item (read limit) a ≡ Some (s, b)

-- one that begins with a word, whatever follows
pub word_item : {x : Text} {s : Term} {a b c : Text} → Seen (word x) a b → ItemFollows a → IsUtf8 c → length c ≤ length b → ((limit : ℕ) → depth s ≤ limit → ItemFollows c → module_item (read limit) a ≡ Some (s, c)) → IsReadItem s a c
word_item {x} tok k u short reads = record {
  utf8 = u;
  shorter = let s = tok.shorter in omega arith;
  more = seen_not_end tok;
  token = λ e. some_none (word x) (sym e ∙ tok.lexeme_is);
  follows = k;
  reads = reads;
}
