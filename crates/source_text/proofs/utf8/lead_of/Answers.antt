-- `lead_of` meets its contract: on each range of bytes one test shows what they ask.
use mathlib.Core.Path.{sym, ap}
use Rattle.source_text.specs.Utf8.{lead_of, form_of, forms, asks, starting}
use Rattle.source_text.proofs.Encodings.{same_lead, lead_range}
use native.Mathlib.Omega.{arith}
use Rattle.source_text.proofs.utf8.lead_of.Goals as goal

pub returns-in_default : goal.returns-in_default
unfolding lead_of form_of forms same_lead
returns-in_default c = ap starting (sym (lead_range 128 66 (asks 0 0x80 0xBF) tt c.args.a (omega arith) (omega arith)))

pub returns-in_default-2 : goal.returns-in_default-2
unfolding lead_of form_of forms same_lead
returns-in_default-2 c = ap starting (sym (lead_range 245 11 (asks 0 0x80 0xBF) tt c.args.a (omega arith) (omega arith)))

pub returns-in-0-to-127 : goal.returns-in-0-to-127
unfolding lead_of form_of forms same_lead
returns-in-0-to-127 c = ap starting (sym (lead_range 0 128 (asks 1 0x80 0xBF) tt c.args.a (omega arith) (omega arith)))

pub returns-in-194-to-223 : goal.returns-in-194-to-223
unfolding lead_of form_of forms same_lead
returns-in-194-to-223 c = ap starting (sym (lead_range 194 30 (asks 2 0x80 0xBF) tt c.args.a (omega arith) (omega arith)))

pub returns-in-224 : goal.returns-in-224
unfolding lead_of form_of forms same_lead
returns-in-224 c = ap starting (sym (lead_range 224 1 (asks 3 0xA0 0xBF) tt c.args.a (omega arith) (omega arith)))

pub returns-in-225-to-236 : goal.returns-in-225-to-236
unfolding lead_of form_of forms same_lead
returns-in-225-to-236 c = ap starting (sym (lead_range 225 12 (asks 3 0x80 0xBF) tt c.args.a (omega arith) (omega arith)))

pub returns-in-237 : goal.returns-in-237
unfolding lead_of form_of forms same_lead
returns-in-237 c = ap starting (sym (lead_range 237 1 (asks 3 0x80 0x9F) tt c.args.a (omega arith) (omega arith)))

pub returns-in-238-to-239 : goal.returns-in-238-to-239
unfolding lead_of form_of forms same_lead
returns-in-238-to-239 c = ap starting (sym (lead_range 238 2 (asks 3 0x80 0xBF) tt c.args.a (omega arith) (omega arith)))

pub returns-in-240 : goal.returns-in-240
unfolding lead_of form_of forms same_lead
returns-in-240 c = ap starting (sym (lead_range 240 1 (asks 4 0x90 0xBF) tt c.args.a (omega arith) (omega arith)))

pub returns-in-241-to-243 : goal.returns-in-241-to-243
unfolding lead_of form_of forms same_lead
returns-in-241-to-243 c = ap starting (sym (lead_range 241 3 (asks 4 0x80 0xBF) tt c.args.a (omega arith) (omega arith)))

pub returns-in-244 : goal.returns-in-244
unfolding lead_of form_of forms same_lead
returns-in-244 c = ap starting (sym (lead_range 244 1 (asks 4 0x80 0x8F) tt c.args.a (omega arith) (omega arith)))
