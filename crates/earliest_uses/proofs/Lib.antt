mod Visiting
