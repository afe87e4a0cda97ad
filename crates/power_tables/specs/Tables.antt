-- The tables of exp2m1.rs: double-double approximations of powers of two. Definitions only.
use Rattle.std.specs.Prelude.{List, [], ◌∷◌}
use Rattle.std.specs.Float.{nan}
use Rattle.pair.specs.declared.Pair.{Pair}
use Rattle.pair.specs.Pair.{bits, pair}

-- 2 ^ (i / 64)
unfoldable pub T1 : List Pair
T1 =
    pair (bits 0x3ff0000000000000) (bits 0x0000000000000000) ∷
    pair (bits 0x3ff02c9a3e778061) (bits 0xbc719083535b085d) ∷
    pair (bits 0x3ff059b0d3158574) (bits 0x3c8d73e2a475b465) ∷
    pair (bits 0x3ff0874518759bc8) (bits 0x3c6186be4bb284ff) ∷
    pair (bits 0x3ff0b5586cf9890f) (bits 0x3c98a62e4adc610b) ∷
    pair (bits 0x3ff0e3ec32d3d1a2) (bits 0x3c403a1727c57b53) ∷
    pair (bits 0x3ff11301d0125b51) (bits 0xbc96c51039449b3a) ∷
    pair (bits 0x3ff1429aaea92de0) (bits 0xbc932fbf9af1369e) ∷
    pair (bits 0x3ff172b83c7d517b) (bits 0xbc819041b9d78a76) ∷
    pair (bits 0x3ff1a35beb6fcb75) (bits 0x3c8e5b4c7b4968e4) ∷
    pair (bits 0x3ff1d4873168b9aa) (bits 0x3c9e016e00a2643c) ∷
    pair (bits 0x3ff2063b88628cd6) (bits 0x3c8dc775814a8495) ∷
    pair (bits 0x3ff2387a6e756238) (bits 0x3c99b07eb6c70573) ∷
    pair (bits 0x3ff26b4565e27cdd) (bits 0x3c82bd339940e9d9) ∷
    pair (bits 0x3ff29e9df51fdee1) (bits 0x3c8612e8afad1255) ∷
    pair (bits 0x3ff2d285a6e4030b) (bits 0x3c90024754db41d5) ∷
    pair (bits 0x3ff306fe0a31b715) (bits 0x3c86f46ad23182e4) ∷
    pair (bits 0x3ff33c08b26416ff) (bits 0x3c932721843659a6) ∷
    pair (bits 0x3ff371a7373aa9cb) (bits 0xbc963aeabf42eae2) ∷
    pair (bits 0x3ff3a7db34e59ff7) (bits 0xbc75e436d661f5e3) ∷
    pair (bits 0x3ff3dea64c123422) (bits 0x3c8ada0911f09ebc) ∷
    pair (bits 0x3ff4160a21f72e2a) (bits 0xbc5ef3691c309278) ∷
    pair (bits 0x3ff44e086061892d) (bits 0x3c489b7a04ef80d0) ∷
    pair (bits 0x3ff486a2b5c13cd0) (bits 0x3c73c1a3b69062f0) ∷
    pair (bits 0x3ff4bfdad5362a27) (bits 0x3c7d4397afec42e2) ∷
    pair (bits 0x3ff4f9b2769d2ca7) (bits 0xbc94b309d25957e3) ∷
    pair (bits 0x3ff5342b569d4f82) (bits 0xbc807abe1db13cad) ∷
    pair (bits 0x3ff56f4736b527da) (bits 0x3c99bb2c011d93ad) ∷
    pair (bits 0x3ff5ab07dd485429) (bits 0x3c96324c054647ad) ∷
    pair (bits 0x3ff5e76f15ad2148) (bits 0x3c9ba6f93080e65e) ∷
    pair (bits 0x3ff6247eb03a5585) (bits 0xbc9383c17e40b497) ∷
    pair (bits 0x3ff6623882552225) (bits 0xbc9bb60987591c34) ∷
    pair (bits 0x3ff6a09e667f3bcd) (bits 0xbc9bdd3413b26456) ∷
    pair (bits 0x3ff6dfb23c651a2f) (bits 0xbc6bbe3a683c88ab) ∷
    pair (bits 0x3ff71f75e8ec5f74) (bits 0xbc816e4786887a99) ∷
    pair (bits 0x3ff75feb564267c9) (bits 0xbc90245957316dd3) ∷
    pair (bits 0x3ff7a11473eb0187) (bits 0xbc841577ee04992f) ∷
    pair (bits 0x3ff7e2f336cf4e62) (bits 0x3c705d02ba15797e) ∷
    pair (bits 0x3ff82589994cce13) (bits 0xbc9d4c1dd41532d8) ∷
    pair (bits 0x3ff868d99b4492ed) (bits 0xbc9fc6f89bd4f6ba) ∷
    pair (bits 0x3ff8ace5422aa0db) (bits 0x3c96e9f156864b27) ∷
    pair (bits 0x3ff8f1ae99157736) (bits 0x3c85cc13a2e3976c) ∷
    pair (bits 0x3ff93737b0cdc5e5) (bits 0xbc675fc781b57ebc) ∷
    pair (bits 0x3ff97d829fde4e50) (bits 0xbc9d185b7c1b85d1) ∷
    pair (bits 0x3ff9c49182a3f090) (bits 0x3c7c7c46b071f2be) ∷
    pair (bits 0x3ffa0c667b5de565) (bits 0xbc9359495d1cd533) ∷
    pair (bits 0x3ffa5503b23e255d) (bits 0xbc9d2f6edb8d41e1) ∷
    pair (bits 0x3ffa9e6b5579fdbf) (bits 0x3c90fac90ef7fd31) ∷
    pair (bits 0x3ffae89f995ad3ad) (bits 0x3c97a1cd345dcc81) ∷
    pair (bits 0x3ffb33a2b84f15fb) (bits 0xbc62805e3084d708) ∷
    pair (bits 0x3ffb7f76f2fb5e47) (bits 0xbc75584f7e54ac3b) ∷
    pair (bits 0x3ffbcc1e904bc1d2) (bits 0x3c823dd07a2d9e84) ∷
    pair (bits 0x3ffc199bdd85529c) (bits 0x3c811065895048dd) ∷
    pair (bits 0x3ffc67f12e57d14b) (bits 0x3c92884dff483cad) ∷
    pair (bits 0x3ffcb720dcef9069) (bits 0x3c7503cbd1e949db) ∷
    pair (bits 0x3ffd072d4a07897c) (bits 0xbc9cbc3743797a9c) ∷
    pair (bits 0x3ffd5818dcfba487) (bits 0x3c82ed02d75b3707) ∷
    pair (bits 0x3ffda9e603db3285) (bits 0x3c9c2300696db532) ∷
    pair (bits 0x3ffdfc97337b9b5f) (bits 0xbc91a5cd4f184b5c) ∷
    pair (bits 0x3ffe502ee78b3ff6) (bits 0x3c839e8980a9cc8f) ∷
    pair (bits 0x3ffea4afa2a490da) (bits 0xbc9e9c23179c2893) ∷
    pair (bits 0x3ffefa1bee615a27) (bits 0x3c9dc7f486a4b6b0) ∷
    pair (bits 0x3fff50765b6e4540) (bits 0x3c99d3e12dd8a18b) ∷
    pair (bits 0x3fffa7c1819e90d8) (bits 0x3c874853f3a5931e) ∷
    []

-- 2 ^ (i / 2 ^ 12)
unfoldable pub T2 : List Pair
T2 =
    pair (bits 0x3ff0000000000000) (bits 0x0000000000000000) ∷
    pair (bits 0x3ff000b175effdc7) (bits 0x3c9ae8e38c59c72a) ∷
    pair (bits 0x3ff00162f3904052) (bits 0xbc57b5d0d58ea8f4) ∷
    pair (bits 0x3ff0021478e11ce6) (bits 0x3c94115cb6b16a8e) ∷
    pair (bits 0x3ff002c605e2e8cf) (bits 0xbc8d7c96f201bb2f) ∷
    pair (bits 0x3ff003779a95f959) (bits 0x3c984711d4c35e9f) ∷
    pair (bits 0x3ff0042936faa3d8) (bits 0xbc80484245243777) ∷
    pair (bits 0x3ff004dadb113da0) (bits 0xbc94b237da2025f9) ∷
    pair (bits 0x3ff0058c86da1c0a) (bits 0xbc75e00e62d6b30d) ∷
    pair (bits 0x3ff0063e3a559473) (bits 0x3c9a1d6cedbb9481) ∷
    pair (bits 0x3ff006eff583fc3d) (bits 0xbc94acf197a00142) ∷
    pair (bits 0x3ff007a1b865a8ca) (bits 0xbc6eaf2ea42391a5) ∷
    pair (bits 0x3ff0085382faef83) (bits 0x3c7da93f90835f75) ∷
    pair (bits 0x3ff00905554425d4) (bits 0xbc86a79084ab093c) ∷
    pair (bits 0x3ff009b72f41a12b) (bits 0x3c986364f8fbe8f8) ∷
    pair (bits 0x3ff00a6910f3b6fd) (bits 0xbc882e8e14e3110e) ∷
    pair (bits 0x3ff00b1afa5abcbf) (bits 0xbc84f6b2a7609f71) ∷
    pair (bits 0x3ff00bcceb7707ec) (bits 0xbc7e1a258ea8f71b) ∷
    pair (bits 0x3ff00c7ee448ee02) (bits 0x3c74362ca5bc26f1) ∷
    pair (bits 0x3ff00d30e4d0c483) (bits 0x3c9095a56c919d02) ∷
    pair (bits 0x3ff00de2ed0ee0f5) (bits 0xbc6406ac4e81a645) ∷
    pair (bits 0x3ff00e94fd0398e0) (bits 0x3c9b5a6902767e09) ∷
    pair (bits 0x3ff00f4714af41d3) (bits 0xbc991b2060859321) ∷
    pair (bits 0x3ff00ff93412315c) (bits 0x3c8427068ab22306) ∷
    pair (bits 0x3ff010ab5b2cbd11) (bits 0x3c9c1d0660524e08) ∷
    pair (bits 0x3ff0115d89ff3a8b) (bits 0xbc9e7bdfb3204be8) ∷
    pair (bits 0x3ff0120fc089ff63) (bits 0x3c8843aa8b9cbbc6) ∷
    pair (bits 0x3ff012c1fecd613b) (bits 0xbc734104ee7edae9) ∷
    pair (bits 0x3ff0137444c9b5b5) (bits 0xbc72b6aeb6176892) ∷
    pair (bits 0x3ff01426927f5278) (bits 0x3c7a8cd33b8a1bb3) ∷
    pair (bits 0x3ff014d8e7ee8d2f) (bits 0x3c72edc08e5da99a) ∷
    pair (bits 0x3ff0158b4517bb88) (bits 0x3c857ba2dc7e0c73) ∷
    pair (bits 0x3ff0163da9fb3335) (bits 0x3c9b61299ab8cdb7) ∷
    pair (bits 0x3ff016f0169949ed) (bits 0xbc990565902c5f44) ∷
    pair (bits 0x3ff017a28af25567) (bits 0x3c870fc41c5c2d53) ∷
    pair (bits 0x3ff018550706ab62) (bits 0x3c94b9a6e145d76c) ∷
    pair (bits 0x3ff019078ad6a19f) (bits 0xbc7008eff5142bf9) ∷
    pair (bits 0x3ff019ba16628de2) (bits 0xbc977669f033c7de) ∷
    pair (bits 0x3ff01a6ca9aac5f3) (bits 0xbc909bb78eeead0a) ∷
    pair (bits 0x3ff01b1f44af9f9e) (bits 0x3c9371231477ece5) ∷
    pair (bits 0x3ff01bd1e77170b4) (bits 0x3c75e7626621eb5b) ∷
    pair (bits 0x3ff01c8491f08f08) (bits 0xbc9bc72b100828a5) ∷
    pair (bits 0x3ff01d37442d5070) (bits 0xbc6ce39cbbab8bbe) ∷
    pair (bits 0x3ff01de9fe280ac8) (bits 0x3c816996709da2e2) ∷
    pair (bits 0x3ff01e9cbfe113ef) (bits 0xbc8c11f5239bf535) ∷
    pair (bits 0x3ff01f4f8958c1c6) (bits 0x3c8e1d4eb5edc6b3) ∷
    pair (bits 0x3ff020025a8f6a35) (bits 0xbc9afb99946ee3f0) ∷
    pair (bits 0x3ff020b533856324) (bits 0xbc98f06d8a148a32) ∷
    pair (bits 0x3ff02168143b0281) (bits 0xbc82bf310fc54eb6) ∷
    pair (bits 0x3ff0221afcb09e3e) (bits 0xbc9c95a035eb4175) ∷
    pair (bits 0x3ff022cdece68c4f) (bits 0xbc9491793e46834d) ∷
    pair (bits 0x3ff02380e4dd22ad) (bits 0xbc73e8d0d9c49091) ∷
    pair (bits 0x3ff02433e494b755) (bits 0xbc9314aa16278aa3) ∷
    pair (bits 0x3ff024e6ec0da046) (bits 0x3c848daf888e9651) ∷
    pair (bits 0x3ff02599fb483385) (bits 0x3c856dc8046821f4) ∷
    pair (bits 0x3ff0264d1244c719) (bits 0x3c945b42356b9d47) ∷
    pair (bits 0x3ff027003103b10e) (bits 0xbc7082ef51b61d7e) ∷
    pair (bits 0x3ff027b357854772) (bits 0x3c72106ed0920a34) ∷
    pair (bits 0x3ff0286685c9e059) (bits 0xbc9fd4cf26ea5d0f) ∷
    pair (bits 0x3ff02919bbd1d1d8) (bits 0xbc909f8775e78084) ∷
    pair (bits 0x3ff029ccf99d720a) (bits 0x3c564cbba902ca27) ∷
    pair (bits 0x3ff02a803f2d170d) (bits 0x3c94383ef231d207) ∷
    pair (bits 0x3ff02b338c811703) (bits 0x3c94a47a505b3a47) ∷
    pair (bits 0x3ff02be6e199c811) (bits 0x3c9e47120223467f) ∷
    []

-- what is read past the end
abbrev pub no_pair : Pair
no_pair = pair nan nan
