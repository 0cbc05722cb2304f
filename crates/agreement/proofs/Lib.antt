mod Agreeing
mod Sheets
