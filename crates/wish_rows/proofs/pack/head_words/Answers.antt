use Prim.Native.Nat.{◌%◌}
use native.Mathlib.Omega.{arith}
use mathlib.Core.Path.{◌≡◌, refl}
use Rattle.words.proofs.Bytes.{long_back}
use Rattle.voice_rows.proofs.Records.{params_same}
use Rattle.wish_rows.specs.Rows.{headed}
use Rattle.wish_rows.proofs.Records.{nodes_same, edges_same, def_same, wish_same}
use Rattle.wish_rows.proofs.pack.head_words.Goals as goal

pub returns : goal.returns
unfolding headed
returns c =
    let w = c.args.w in
    let ns = long_back w.def.nodes.count _ _ c.low_word.ensures c.high_word.ensures in
    let es = long_back w.def.edges.count _ _ c.low_word-2.ensures c.high_word-2.ensures in
    let ps = long_back w.def.params.count _ _ c.low_word-3.ensures c.high_word-3.ensures in
    let output : c.from.result % 256 ≡ w.def.output = omega (arith, c.from.ensures) in
    record {
      long = refl;
      back =
          wish_same _ w c.flag_word.ensures
          (def_same _ w.def (nodes_same _ w.def.nodes refl ns) (edges_same _ w.def.edges refl es) (params_same _ w.def.params refl ps) output)
          refl c.float_word.ensures refl;
    }
