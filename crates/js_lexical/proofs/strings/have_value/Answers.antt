use Rattle.std.proofs.Common.{sym, ◌∙◌}
use Rattle.js_lexical.proofs.Decoded.{backslash, as_it_is}
use Rattle.js_lexical.proofs.strings.have_value.Goals as goal

pub returns-in_default-behind_escape : goal.returns-in_default-behind_escape
returns-in_default-behind_escape c =
    c.in_default-behind_escape.ensures.left c.args.quote
    ∙ sym (backslash c.args.quote c.loop-bytes.bytes.now c.in-len1-up.len_at_least c.if-byte-eq92.true) ∙ c.loop-bytes.invariant

pub loop-bytes-preserved-then-byte-eq92 : goal.loop-bytes-preserved-then-byte-eq92
loop-bytes-preserved-then-byte-eq92 c =
    c.in-Some.ensures.left c.args.quote
    ∙ sym (backslash c.args.quote c.loop-bytes.bytes.now c.in-len1-up.len_at_least c.if-byte-eq92.true) ∙ c.loop-bytes.invariant

pub loop-bytes-preserved : goal.loop-bytes-preserved
loop-bytes-preserved c =
    sym (as_it_is c.args.quote c.loop-bytes.bytes.now c.in-len1-up.len_at_least (sym c.if-not-is_plain.ensures)) ∙ c.loop-bytes.invariant
