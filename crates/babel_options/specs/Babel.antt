-- What Babel's options say of the source.
use Rattle.std.specs.Prelude.{List, ℕ, Bool, true, false, Option, None, Some}
use Rattle.std.specs.Str.{bytes_eq}
use Rattle.babel_options.specs.declared.plugins.SyntaxTypeScriptOptions.{SyntaxTypeScriptOptions}

abbrev pub has_type_script : Option SyntaxTypeScriptOptions → Bool
has_type_script None = false
has_type_script (Some options) = true

abbrev pub has_dts : Option SyntaxTypeScriptOptions → Bool
has_dts None = false
has_dts (Some options) = options.dts

abbrev pub disallows_jsx_like : Option SyntaxTypeScriptOptions → Bool
disallows_jsx_like None = false
disallows_jsx_like (Some options) = options.disallow_ambiguous_jsx_like

abbrev pub is_text : List ℕ → Option (List ℕ) → Bool
is_text text None = false
is_text text (Some other) = bytes_eq other text
