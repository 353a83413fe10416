-- The first lines of the worked tickets: headers and proposals (document 01, 'Worked runs').
use Rattle.std.specs.Prelude.{List, [], ◌∷◌, ◌++◌, ℕ}
use Prim.Native.String.{String}
use Rattle.text.specs.TextOf.{text_of}

-- Case 1's header and proposals, which most cases use: lines 1 to 5.
unfoldable pub opening : List String
opening = "010402" ∷ "02010000000A" ∷ "020200000014" ∷ "02030000001E" ∷ "020400000028" ∷ []

-- The text of case 1's header and proposals, lines 1 to 5, and of more lines behind them.
unfoldable pub after_opening : List String → List ℕ
after_opening lines = text_of opening ++ text_of lines

-- The header and the proposals of 64 processes.
unfoldable pub opening64 : List String
opening64 =
    "01403F" ∷ "020100000001" ∷ "020200000002" ∷ "020300000003" ∷ "020400000004" ∷ "020500000005" ∷ "020600000006" ∷ "020700000007"
    ∷ "020800000008" ∷ "020900000009" ∷ "020A0000000A" ∷ "020B0000000B" ∷ "020C0000000C" ∷ "020D0000000D" ∷ "020E0000000E" ∷ "020F0000000F"
    ∷ "021000000010" ∷ "021100000011" ∷ "021200000012" ∷ "021300000013" ∷ "021400000014" ∷ "021500000015" ∷ "021600000016" ∷ "021700000017"
    ∷ "021800000018" ∷ "021900000019" ∷ "021A0000001A" ∷ "021B0000001B" ∷ "021C0000001C" ∷ "021D0000001D" ∷ "021E0000001E" ∷ "021F0000001F"
    ∷ "022000000020" ∷ "022100000021" ∷ "022200000022" ∷ "022300000023" ∷ "022400000024" ∷ "022500000025" ∷ "022600000026" ∷ "022700000027"
    ∷ "022800000028" ∷ "022900000029" ∷ "022A0000002A" ∷ "022B0000002B" ∷ "022C0000002C" ∷ "022D0000002D" ∷ "022E0000002E" ∷ "022F0000002F"
    ∷ "023000000030" ∷ "023100000031" ∷ "023200000032" ∷ "023300000033" ∷ "023400000034" ∷ "023500000035" ∷ "023600000036" ∷ "023700000037"
    ∷ "023800000038" ∷ "023900000039" ∷ "023A0000003A" ∷ "023B0000003B" ∷ "023C0000003C" ∷ "023D0000003D" ∷ "023E0000003E" ∷ "023F0000003F"
    ∷ "024000000040" ∷ []
