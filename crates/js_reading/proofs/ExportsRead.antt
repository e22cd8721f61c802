-- Specifiers of exports that are spelled in a text are read.
use Rattle.std.proofs.Common.{◌≡◌, Bool, true, false, not, ◌&&◌, ◌||◌, List, [], ◌∷◌, Option, Some, None, refl, sym, ◌∙◌, ap, codes}
use Rattle.std.specs.Str.{IsUtf8}
use Rattle.std.proofs.lemmas.Bool.{false≢true}
use Rattle.js_term.specs.Term.{Text, Term}
use Rattle.js_syntax.specs.Edges.{exports}
use Rattle.js_syntax.specs.Tokens.{Lexeme, word}
use Rattle.js_syntax.specs.Modules as module'
use Rattle.js_syntax.specs.Modules.{Specifier, Specifiers}
use Rattle.js_tokens.specs.Next.{lexeme}
use Rattle.js_reading.specs.Reading.{is_sign, sees, sees_word, at_end, same_line, goes_on_at, left_out}
use Rattle.js_reading.specs.Modules.{called, quoted, Pair, exported_pair, local_name, local_by, local_specifiers, indirect_specifier, indirect_specifiers}
use Rattle.js_reading.proofs.Each.{word_is}
use Rattle.js_reading.proofs.TokensThere.{see, see_sign, see_word, sees_word_by}
use Rattle.js_reading.proofs.TokensEnd.{Ended, by_sign, by_stop, end_none}
use Rattle.js_reading.proofs.Lists.{ReadsItem, last_all}
use Rattle.js_reading.proofs.Specified.{name_at_utf8, called_at, quoted_at, export_name_read, ListRead, none_read, plain_read, and_read, renamed_pair, same_pair}

-- ---- specifiers of an export of this module

pub record LocalRead (t : Term) (a b : Text) : Type 0 where
  pub utf8 : IsUtf8 b
  pub pair : Pair
  pub means : local_by (local_name pair.0) pair.1 ≡ Some t
  pub item : ReadsItem false false exported_pair pair a b

local_read : {t : Term} {a b : Text} → Specifier module'.local t a b → IsUtf8 a → LocalRead t a b
local_read (module'.export_renamed {x = x} free tok as' m) u =
    let y = see_word tok u in
    let z = see_word as' y.utf8 in
    let n = export_name_read m z.utf8 in
    record { utf8 = name_at_utf8 n.at; pair = (called x, n.shown); means = rw (free, n.tree_is); item = renamed_pair (called_at y) z n.at }
local_read (module'.export_same {x = x} free tok) u = let y = see_word tok u in record { utf8 = y.utf8; pair = (called x, called x); means = rw free; item = same_pair (called_at y) }
local_read (module'.string_renamed {v = v} tok as' m) u =
    let y = see tok u refl in
    let z = see_word as' y.utf8 in
    let n = export_name_read m z.utf8 in
    record { utf8 = name_at_utf8 n.at; pair = (quoted v, n.shown); means = rw n.tree_is; item = renamed_pair (quoted_at y) z n.at }
local_read (module'.string_same {v = v} tok) u = let y = see tok u refl in record { utf8 = y.utf8; pair = (quoted v, quoted v); means = refl; item = same_pair (quoted_at y) }

pub record LocalListRead (ts : List Term) (a b : Text) : Type 0 where
  pub utf8 : IsUtf8 b
  pub shown : List Pair
  pub means : local_specifiers shown ≡ Some ts
  pub items : ListRead exported_pair shown a b

pub local_list_read : {ts : List Term} {a b : Text} → Specifiers module'.local ts a b → IsUtf8 a → LocalListRead ts a b
local_list_read module'.no_specifiers u = record { utf8 = u; shown = []; means = refl; items = none_read }
local_list_read (module'.last_specifier s) u = let x = local_read s u in record { utf8 = x.utf8; shown = x.pair ∷ []; means = rw x.means; items = plain_read (last_all x.item) }
local_list_read (module'.and_specifier s tok rest) u =
    let x = local_read s u in
    let c = see_sign tok x.utf8 in
    let r = local_list_read rest c.utf8 in
    record { utf8 = r.utf8; shown = x.pair ∷ r.shown; means = rw (x.means, r.means); items = and_read x.item c r.items }

-- ---- specifiers of an export from another module

pub record IndirectRead (t : Term) (a b : Text) : Type 0 where
  pub utf8 : IsUtf8 b
  pub pair : Pair
  pub means : indirect_specifier pair ≡ t
  pub item : ReadsItem false false exported_pair pair a b

indirect_read : {t : Term} {a b : Text} → Specifier module'.indirect t a b → IsUtf8 a → IndirectRead t a b
indirect_read (module'.indirect_renamed m as' e) u =
    let n = export_name_read m u in
    let z = see_word as' (name_at_utf8 n.at) in
    let n2 = export_name_read e z.utf8 in
    record { utf8 = name_at_utf8 n2.at; pair = (n.shown, n2.shown); means = rw (n.tree_is, n2.tree_is); item = renamed_pair n.at z n2.at }
indirect_read (module'.indirect_same m) u = let n = export_name_read m u in record { utf8 = name_at_utf8 n.at; pair = (n.shown, n.shown); means = rw n.tree_is; item = same_pair n.at }

pub record IndirectListRead (ts : List Term) (a b : Text) : Type 0 where
  pub utf8 : IsUtf8 b
  pub shown : List Pair
  pub means : indirect_specifiers shown ≡ ts
  pub items : ListRead exported_pair shown a b

pub indirect_list_read : {ts : List Term} {a b : Text} → Specifiers module'.indirect ts a b → IsUtf8 a → IndirectListRead ts a b
indirect_list_read module'.no_specifiers u = record { utf8 = u; shown = []; means = refl; items = none_read }
indirect_list_read (module'.last_specifier s) u = let x = indirect_read s u in record { utf8 = x.utf8; shown = x.pair ∷ []; means = rw x.means; items = plain_read (last_all x.item) }
indirect_list_read (module'.and_specifier s tok rest) u =
    let x = indirect_read s u in
    let c = see_sign tok x.utf8 in
    let r = indirect_list_read rest c.utf8 in
    record { utf8 = r.utf8; shown = x.pair ∷ r.shown; means = rw (x.means, r.means); items = and_read x.item c r.items }

-- ---- behind the list of an export of this module

word_goes_on : (a : Text) → lexeme a ≡ Some (word (codes "from")) → left_out exports a ≡ true → ⊥
unfolding left_out sees
word_goes_on a is h = go (at_end a) (same_line a) refl (sym (ap (λ o. is_sign (codes "}") o || at_end a || (not (same_line a) && not (goes_on_at exports o))) is) ∙ h)
  where
    none_some : ◌≡◌ {A = Option Lexeme} None (Some (word (codes "from"))) → ⊥
    none_some e = cc

    go : (end line : Bool) → at_end a ≡ end → (end || (not line && false)) ≡ true → ⊥
    go true line e h = none_some (sym (end_none a e) ∙ is)
    go false true e h = false≢true h
    go false false e h = false≢true h

-- no `from` stands behind it
pub no_from_behind : {a b : Text} → Ended exports a b → sees_word (codes "from") a ≡ false
unfolding sees_word
no_from_behind (by_sign x) = sees_word_by (codes "from") x
no_from_behind {a} (by_stop same s) = go (sees_word (codes "from") a) refl
  where
    go : (t : Bool) → sees_word (codes "from") a ≡ t → sees_word (codes "from") a ≡ false
    go false e = e
    go true e = let left = s.left in absurd (word_goes_on a (word_is (codes "from") (lexeme a) e) left)
