use Rattle.std.proofs.Common.{◌≡◌, true, ◌-◌, drop, length, sym, ap, ap₂, subst, ◌∙◌, arith, length-drop}
use Rattle.std.proofs.Math.Seq.{take_all}
use Rattle.gf64.specs.Field.{fold_bytes}
use Rattle.foldtext.specs.Line.{Holds, is_input, fold_line, line_of}
use Rattle.foldtext.proofs.LineLaws.{whole-line, line-input, line_other, fold_line-length}
use Rattle.foldtext.proofs.line.Goals as goal

pub returns-then-not-is_input : goal.returns-then-not-is_input
returns-then-not-is_input c =
    subst (Holds c.refused.result) (sym (line_other _ (sym c.is_input.ensures ∙ c.if-not-is_input.true))) c.refused.ensures

pub returns : goal.returns
returns c =
    let s = c.args.s.now in
    let input : is_input (length s) ≡ true = sym c.is_input.ensures ∙ c.if-not-is_input.false in
    let words = take_all (length s - 8) (drop 8 s) (omega (arith, length-drop 8 s)) in
    let made : c.fold_line.result ≡ line_of s =
    c.fold_line.ensures ∙ ap fold_line (c.fold.ensures ∙ ap₂ fold_bytes c.load64-key.ensures words) ∙ sym (line-input s input) in
    let long : length (line_of s) ≡ 17 = ap length (line-input s input) ∙ fold_line-length _ in
    record { long = sym long; bytes = made ∙ whole-line (line_of s) long }
